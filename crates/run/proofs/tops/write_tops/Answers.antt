use Rattle.run.proofs.Topping.{Toppings, toppings_none, toppings_in, toppings-found, toppings-more, topping_all, topping_labelled, topping-type}
use mathlib.Core.Path.{◌≡◌, refl, sym, ◌∙◌}
use Prim.Native.Nat.{◌-◌}
use lib.ListN.{length}
use native.Mathlib.Omega.{arith}
use borrow.Author.Rules.{rules}
use Rattle.run.proofs.tops.write_tops.Goals as goal

pub loop-i-init : goal.loop-i-init
loop-i-init c =
    (refl, toppings_none _ _ _ _ _ _ _ _ _ (λ i. omega (arith, c.type_inv.plan i)))

pub write_top-requires : goal.write_top-requires
write_top-requires c =
    let (l, T) = c.loop-i.invariant in let (X, D, P) = c.requires.plan_at in record { ends = c.requires.ends; indexed_row = c.requires.indexed_row; top_in = toppings_in T c.requires.rec_len_bound.0 c.loop-i-test.true c.label.ensures.result_value c.in-Is.is X D P; longest_value = c.requires.rec_len_bound.1 ∙ sym l }

pub shape_of-aside-in-Overflows : goal.shape_of-aside-in-Overflows
shape_of-aside-in-Overflows c =
    c.write_top.auto.aside ∙ c.loop-i.invariant.0

pub returns-in-Overflows : goal.returns-in-Overflows
returns-in-Overflows c =
    λ X D P.
    let (l, T) = c.loop-i.invariant in
    toppings-found T c.requires.rec_len_bound.0 c.loop-i-test.true c.label.ensures.result_value c.in-Is.is X D P
    (c.write_top.ensures (toppings_in T c.requires.rec_len_bound.0 c.loop-i-test.true c.label.ensures.result_value c.in-Is.is X D P)) c.in-Overflows.is

pub skip_type-d-requires : goal.skip_type-d-requires
skip_type-d-requires c =
    let (X, D, P) = c.requires.plan_at in
    topping-type (c.loop-i.invariant.1 X D P) c.loop-i-test.true c.label.ensures.result_value c.in-Is.is

pub shape_of-aside-in-Refused : goal.shape_of-aside-in-Refused
shape_of-aside-in-Refused c =
    c.loop-i.invariant.0

pub returns-in-Refused : goal.returns-in-Refused
returns-in-Refused c =
    λ X D P. topping_labelled (c.loop-i.invariant.1 X D P) c.loop-i-test.true c.label.ensures.result_value c.in-Refused.is

pub overflow_add-i : goal.overflow_add-i
overflow_add-i c =
    omega (arith, c.loop-i-test.true, c.well_formed.1.1.0)

pub loop-i-smaller : goal.loop-i-smaller
loop-i-smaller c =
    omega (arith, c.loop-i-test.true)

pub loop-i-preserved : goal.loop-i-preserved
loop-i-preserved c =
    let (l, T) = c.loop-i.invariant in (
      c.write_top.auto.aside ∙ l,
      λ X D P. toppings-more T c.requires.rec_len_bound.0 c.loop-i-test.true c.label.ensures.result_value c.in-Is.is X D P (c.write_top.ensures (toppings_in T c.requires.rec_len_bound.0 c.loop-i-test.true c.label.ensures.result_value c.in-Is.is X D P)) c.in-To.is l c.skip_type-d.ensures,
    )

pub shape_of-aside : goal.shape_of-aside
shape_of-aside c =
    c.loop-i.invariant.0

pub returns : goal.returns
returns c =
    λ X D P. topping_all (c.loop-i.invariant.1 X D P) c.loop-i-test.false
