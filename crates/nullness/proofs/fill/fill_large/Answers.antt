-- `nullness::fill::fill_large` meets its contract: one constant more, whose nulls are in the table. Assumes nothing.
use mathlib.Core.Path.{refl}
use Rattle.nullness.proofs.Filling.{constant_nulls}
use Rattle.nullness.proofs.NullsTable.{nulls_grown}
use Rattle.ends.proofs.Entries.{ends-none}
use Rattle.nullness.proofs.fill.fill_large.Goals as goal

pub fill_value-requires : goal.fill_value-requires
fill_value-requires c =
    record { ends = ends-none refl; raw_at = c.requires.at_value.0 }

pub returns-then-fill_value : goal.returns-then-fill_value
returns-then-fill_value c =
    c.keep_constant.ensures _ (nulls_grown c.fill_value.ensures.grown c.requires.nulls)
    (constant_nulls c.requires.at_value.0.type c.requires.at_value.1 (c.fill_value.ensures.nulls_of c.if-fill_value.true))

pub returns-else-fill_value : goal.returns-else-fill_value
returns-else-fill_value c =
    nulls_grown c.fill_value.ensures.grown c.requires.nulls
