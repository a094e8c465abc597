use Rattle.transfer.proofs.Casting.{element-stands}
use Rattle.transfer.proofs.Rows.{going_none, going_all, going-value, going_more}
use Rattle.transfer.proofs.Reaching.{unknown}
use Rattle.plan.specs.Run.{cast_leaf}
use mathlib.Core.Path.{refl, ◌∙◌}
use native.Mathlib.Omega.{arith}
use Rattle.transfer.proofs.casts.cast_elements.Goals as goal

pub loop-i-init : goal.loop-i-init
loop-i-init c =
    (refl, λ X. going_none (cast_leaf c.args.to) X _ _)

pub shape_of-out-then-k-gt-LONGEST : goal.shape_of-out-then-k-gt-LONGEST
shape_of-out-then-k-gt-LONGEST c =
    c.loop-i.invariant.0

pub returns-then-k-gt-LONGEST : goal.returns-then-k-gt-LONGEST
returns-then-k-gt-LONGEST c =
    λ X. unknown

pub taken_leaf-requires : goal.taken_leaf-requires
taken_leaf-requires c =
    (_, element-stands (going-value (cast_leaf c.args.to) c.requires.elements_in (c.loop-i.invariant.1 c.requires.elements_in) c.loop-i-test.true))

pub put_chain-requires : goal.put_chain-requires
put_chain-requires c =
    record { ends = c.requires.ends; node_in = (_, element-stands (going-value (cast_leaf c.args.to) c.requires.elements_in (c.loop-i.invariant.1 c.requires.elements_in) c.loop-i-test.true)); rec_len_bound = (c.requires.rec_len_bound, omega (arith, c.if-k-gt-LONGEST.false)) }

pub skip_value-c-requires : goal.skip_value-c-requires
skip_value-c-requires c =
    record { ends = c.requires.ends; raw_at = going-value (cast_leaf c.args.to) c.requires.elements_in (c.loop-i.invariant.1 c.requires.elements_in) c.loop-i-test.true }

pub shape_of-out-in-Unknown : goal.shape_of-out-in-Unknown
shape_of-out-in-Unknown c =
    c.put_chain.auto.out ∙ c.loop-i.invariant.0

pub returns-in-Unknown : goal.returns-in-Unknown
returns-in-Unknown c =
    λ X. unknown

pub overflow_add-i : goal.overflow_add-i
overflow_add-i c =
    omega (arith, c.loop-i-test.true, c.well_formed.1.1.0)

pub loop-i-smaller : goal.loop-i-smaller
loop-i-smaller c =
    omega (arith, c.loop-i-test.true)

pub loop-i-preserved : goal.loop-i-preserved
loop-i-preserved c = (
  c.put_chain.auto.out ∙ c.loop-i.invariant.0,
  λ X.
      let N = element-stands (going-value (cast_leaf c.args.to) X (c.loop-i.invariant.1 X) c.loop-i-test.true) in
      going_more (cast_leaf c.args.to) X (c.loop-i.invariant.1 X) c.loop-i-test.true (c.skip_value-c.ensures (going-value (cast_leaf c.args.to)
      X (c.loop-i.invariant.1 X) c.loop-i-test.true))
      (c.put_chain.ensures _ _ N (c.cast_to-q.ensures _ _ (c.taken_leaf.ensures _ N))) c.in-To.is,
)

pub shape_of-out : goal.shape_of-out
shape_of-out c =
    c.loop-i.invariant.0

pub returns : goal.returns
returns c =
    λ X. let (a, b) = going_all (cast_leaf c.args.to) X (c.loop-i.invariant.1 X) c.loop-i-test.false in c.limited.ensures _ _ _ _ _ a b
