-- `nullness::fill::fill_constant` meets its contract: the type is read first. Assumes nothing.
use Rattle.nullness.proofs.Filling.{type-read}
use Rattle.nullness.proofs.fill.fill_constant.Goals as goal

pub fill_known-requires : goal.fill_known-requires
fill_known-requires c =
    record { at_value = type-read c.pass_type.ensures c.in-To.is; nulls = c.requires }
