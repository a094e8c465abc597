-- `nullness::marks::meets_marks` meets its contract: the table is that of the incoming columns. Assumes nothing.
use mathlib.Core.Path.{refl, sym}
use lib.Seq.{length-take-le}
use Rattle.plan.proofs.Skipping.{skips-none}
use Rattle.nullness.proofs.Marking.{stride_as}
use Rattle.nullness.proofs.NullsTable.{nulls_none}
use Rattle.nullness.proofs.marks.meets_marks.Goals as goal

pub slice_bounds-meets_columns-end : goal.slice_bounds-meets_columns-end
slice_bounds-meets_columns-end c =
    sym (length-take-le _ _ c.index_columns-j.ensures.upper_bound)

pub meets_columns-requires : goal.meets_columns-requires
meets_columns-requires c =
    record { skips = skips-none 1; index_at = (stride_as c.stride_of.ensures.value c.index_columns-j.ensures.indexed, nulls_none refl); plan_at = c.requires }

pub returns-then-plan-lt1024 : goal.returns-then-plan-lt1024
returns-then-plan-lt1024 c =
    λ P D S. c.meets_columns.ensures P D S

pub slice_bounds-meets_by_table-end : goal.slice_bounds-meets_by_table-end
slice_bounds-meets_by_table-end c =
    sym (length-take-le _ _ c.index_columns-j.ensures.upper_bound)

pub meets_by_table-requires : goal.meets_by_table-requires
meets_by_table-requires c =
    record { index_at = stride_as c.stride_of.ensures.value c.index_columns-j.ensures.indexed; plan_at = c.requires }

pub returns : goal.returns
returns c =
    λ P D S. c.meets_by_table.ensures P D S
