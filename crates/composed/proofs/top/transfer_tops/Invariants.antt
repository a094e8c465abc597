use Rattle.transfer.proofs.Rows.{Running}
use Rattle.index.specs.code.Indexed.{RowIn}
use Rattle.walk.specs.code.Stands.{SelectorsAt}
use lib.ListN.{length}
use mathlib.Core.Path.{◌≡◌}
use Prim.Native.Nat.{◌-◌, ◌≤◌}
use Rattle.composed.proofs.top.transfer_tops.Given as goal

abbrev pub invariant-loop-i : goal.invariant-loop-i
invariant-loop-i l = (length l.out ≡ length l.initial.out) × (l.k ≤ 16387) × ((X : RowIn l.lay l.rec l.row) (S : SelectorsAt l.plan l.count l.initial.c.at) → Running X.values.values S l.initial.out l.initial.k l.i
    l.c.at l.k l.out)

abbrev pub decreases-loop-i : goal.decreases-loop-i
decreases-loop-i l = l.count - l.i
