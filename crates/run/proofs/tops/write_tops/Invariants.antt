use Rattle.run.proofs.Topping.{Toppings, toppings_none, toppings_in, toppings-found, toppings-more, topping_all, topping_labelled, topping-type}
use mathlib.Core.Path.{◌≡◌, refl, sym, ◌∙◌}
use Prim.Native.Nat.{◌-◌}
use lib.ListN.{length}
use native.Mathlib.Omega.{arith}
use borrow.Author.Rules.{rules}
use Rattle.run.proofs.tops.write_tops.Given as goal

abbrev pub invariant-loop-i : goal.invariant-loop-i
invariant-loop-i l = (length l.aside ≡ length l.initial.aside) × Toppings l.lay l.tops.columns l.rec l.plan l.tgt l.edition l.count l.initial.d.at l.initial.aside l.c.at l.d.at l.i l.len l.aside

abbrev pub decreases-loop-i : goal.decreases-loop-i
decreases-loop-i l = l.count - l.i
