-- `nullness::fill::fill_known` meets its contract: the value is read first. Assumes nothing.
use mathlib.Core.Path.{refl}
use Rattle.nullness.proofs.Filling.{value_read}
use Rattle.ends.proofs.Entries.{ends-none}
use Rattle.nullness.proofs.fill.fill_known.Goals as goal

pub read_element-requires : goal.read_element-requires
read_element-requires c =
    record { type_at = c.requires.at_value.0; ends = ends-none refl }

pub fill_large-requires : goal.fill_large-requires
fill_large-requires c =
    record { at_value = value_read c.requires.at_value.0 c.read_element.ensures c.in-To.is c.requires.at_value.1; nulls = c.requires.nulls }
