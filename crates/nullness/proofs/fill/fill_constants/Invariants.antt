use Prim.Native.Nat.{◌-◌}
use mathlib.Core.Path.{◌≡◌}
use lib.ListN.{length}
use Rattle.nullness.specs.code.Nulls.{Nulls}
use Rattle.nullness.proofs.fill.fill_constants.Given as goal

abbrev pub invariant-loop-i : goal.invariant-loop-i
invariant-loop-i l = Nulls l.plan l.nulls × (length l.nulls ≡ length l.initial.nulls)

abbrev pub decreases-loop-i : goal.decreases-loop-i
decreases-loop-i l = l.count - l.i
