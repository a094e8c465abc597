-- `nullness::marks::meets_by_table` meets its contract: the tables are those of the plan's constants. Assumes nothing.
use Rattle.plan.proofs.Skipping.{skips-none}
use Rattle.nullness.proofs.NullsTable.{nulls_zeros}
use Rattle.nullness.proofs.marks.meets_by_table.Goals as goal

pub read_selectors-requires : goal.read_selectors-requires
read_selectors-requires c =
    skips-none 4608

pub fill_constants-requires : goal.fill_constants-requires
fill_constants-requires c =
    nulls_zeros 1088
