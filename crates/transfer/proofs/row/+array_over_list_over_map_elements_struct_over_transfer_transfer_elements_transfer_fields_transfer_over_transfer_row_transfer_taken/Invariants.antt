use Rattle.transfer.proofs.Rows.{Running, Going}
use Rattle.nodes.specs.code.Raw.{ElementsAt}
use Rattle.index.specs.code.Indexed.{RowIn}
use Rattle.walk.specs.code.Stands.{SelectorAt, SelectorsAt}
use Rattle.plan.specs.Run.{eval}
use Rattle.values.specs.Value.{vcons, vnil}
use lib.ListN.{length}
use Prim.Native.Nat.{◌+◌, ◌*◌, ◌-◌, ◌≤◌}
use mathlib.Core.Path.{◌≡◌}
use Rattle.transfer.proofs.row.+array_over_list_over_map_elements_struct_over_transfer_transfer_elements_transfer_fields_transfer_over_transfer_row_transfer_taken.Given as goal

abbrev pub decreases-array_over : goal.decreases-array_over
decreases-array_over l = 6 * l.place.levels + 3

abbrev pub decreases-list_over : goal.decreases-list_over
decreases-list_over l = 6 * l.place.levels + 3

abbrev pub decreases-map_elements : goal.decreases-map_elements
decreases-map_elements l = 6 * l.place.levels + 2

abbrev pub decreases-struct_over : goal.decreases-struct_over
decreases-struct_over l = 6 * l.place.levels + 3

abbrev pub decreases-transfer : goal.decreases-transfer
decreases-transfer l = 6 * l.place.levels

abbrev pub decreases-transfer_elements : goal.decreases-transfer_elements
decreases-transfer_elements l = 6 * l.place.levels + 1

abbrev pub decreases-transfer_fields : goal.decreases-transfer_fields
decreases-transfer_fields l = 6 * l.selectors.first.levels + 2

abbrev pub decreases-transfer_over : goal.decreases-transfer_over
decreases-transfer_over l = 6 * l.place.levels + 4

abbrev pub decreases-transfer_row : goal.decreases-transfer_row
decreases-transfer_row l = 6 * l.selectors.first.levels + 1

abbrev pub decreases-transfer_taken : goal.decreases-transfer_taken
decreases-transfer_taken l = 6 * l.place.levels + 5

abbrev pub invariant-transfer_elements-loop-i : goal.invariant-transfer_elements-loop-i
invariant-transfer_elements-loop-i l = (length l.out ≡ length l.initial.out) × (l.k ≤ 16387)
    × ((X : ElementsAt l.v l.lay l.m l.t.at l.rec l.initial.c.at) (P : SelectorAt l.plan l.element.at) → Going (λ x. eval (vcons x vnil) P.tree) X l.initial.out l.initial.k l.i l.c.at l.k l.out)

abbrev pub decreases-transfer_elements-loop-i : goal.decreases-transfer_elements-loop-i
decreases-transfer_elements-loop-i l = l.m - l.i

abbrev pub invariant-transfer_row-loop-i : goal.invariant-transfer_row-loop-i
invariant-transfer_row-loop-i l = (length l.out ≡ length l.initial.out) × (l.k ≤ 16387) × ((X : RowIn l.lay l.rec l.row) (S : SelectorsAt l.plan l.count l.initial.c.at) → Running X.values.values S l.initial.out l.initial.k l.i
    l.c.at l.k l.out)

abbrev pub decreases-transfer_row-loop-i : goal.decreases-transfer_row-loop-i
decreases-transfer_row-loop-i l = l.count - l.i
