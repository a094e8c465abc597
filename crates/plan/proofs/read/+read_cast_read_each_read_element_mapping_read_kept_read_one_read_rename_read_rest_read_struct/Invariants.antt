use Rattle.plan.proofs.Moves.{Passing}
use Rattle.plan.specs.Read.{selector}
use Rattle.plan.specs.code.Skips.{Skips, SinceIs}
use lib.ListN.{length}
use mathlib.Core.Path.{◌≡◌}
use Prim.Native.Nat.{◌≤◌, ◌+◌, ◌-◌, ◌*◌}
use Rattle.plan.proofs.read.+read_cast_read_each_read_element_mapping_read_kept_read_one_read_rename_read_rest_read_struct.Given as goal

abbrev pub decreases-read_cast : goal.decreases-read_cast
decreases-read_cast l = 4 * l.depth + 2

abbrev pub decreases-read_each : goal.decreases-read_each
decreases-read_each l = 4 * l.depth + 1

abbrev pub decreases-read_element_mapping : goal.decreases-read_element_mapping
decreases-read_element_mapping l = 4 * l.depth + 2

abbrev pub decreases-read_kept : goal.decreases-read_kept
decreases-read_kept l = 4 * l.depth + 1

abbrev pub decreases-read_one : goal.decreases-read_one
decreases-read_one l = 4 * l.depth + 0

abbrev pub decreases-read_rename : goal.decreases-read_rename
decreases-read_rename l = 4 * l.depth + 2

abbrev pub decreases-read_rest : goal.decreases-read_rest
decreases-read_rest l = 4 * l.depth + 3

abbrev pub decreases-read_struct : goal.decreases-read_struct
decreases-read_struct l = 4 * l.depth + 2

abbrev pub invariant-read_each-loop-i : goal.invariant-read_each-loop-i
invariant-read_each-loop-i l = Passing (selector l.depth) l.s l.n l.initial.d.at l.i l.d.at × SinceIs l.depth l.s l.since l.d.at ×
    (l.since.count ≤ l.i) ×
    Skips l.s l.skips × (length l.skips ≡ length l.initial.skips)

abbrev pub decreases-read_each-loop-i : goal.decreases-read_each-loop-i
decreases-read_each-loop-i l = l.n - l.i
