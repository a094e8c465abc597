use lib.ListN.{length, take}
use Rattle.matcher.proofs.Remaining.{Remaining}
use mathlib.Core.Path.{◌≡◌}
use Prim.Native.Nat.{◌+◌, ◌-◌, ◌*◌}
use Rattle.matcher.proofs.attach.+attach_element_attach_field_attach_fields_attach_inner_attach_nested_attach_renamed_attach_struct_attach_transforms.Given as goal

abbrev pub decreases-attach_element : goal.decreases-attach_element
decreases-attach_element l = 7 * l.pair.depth + 4

abbrev pub decreases-attach_field : goal.decreases-attach_field
decreases-attach_field l = 7 * l.sought.depth + 4

abbrev pub decreases-attach_fields : goal.decreases-attach_fields
decreases-attach_fields l = 7 * l.rows.depth + 5

abbrev pub decreases-attach_inner : goal.decreases-attach_inner
decreases-attach_inner l = 7 * l.types.depth

abbrev pub decreases-attach_nested : goal.decreases-attach_nested
decreases-attach_nested l = 7 * l.types.depth + 1

abbrev pub decreases-attach_renamed : goal.decreases-attach_renamed
decreases-attach_renamed l = 7 * l.pair.depth + 3

abbrev pub decreases-attach_struct : goal.decreases-attach_struct
decreases-attach_struct l = 7 * l.over.depth

abbrev pub decreases-attach_transforms : goal.decreases-attach_transforms
decreases-attach_transforms l = 7 * l.types.depth + 2

abbrev pub invariant-attach_fields-loop-i : goal.invariant-attach_fields-loop-i
invariant-attach_fields-loop-i l = Remaining l.build.policy l.build.matching l.build.incoming l.build.target l.rows.depth l.incoming l.rows.incoming.count l.rows.incoming.first.at
    l.table l.build.defaults l.target l.rows.target.count l.initial.c.at l.initial.out l.rows.k l.out l.c.at l.i l.to l.same
    × (take l.used l.arena ≡ take l.used l.initial.arena) × (length l.arena ≡ length l.initial.arena)

abbrev pub decreases-attach_fields-loop-i : goal.decreases-attach_fields-loop-i
decreases-attach_fields-loop-i l = l.rows.target.count - l.i
