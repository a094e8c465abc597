use mathlib.Core.Path.{refl}
use Rattle.ends.proofs.Entries.{ends-none}
use Rattle.values.proofs.constant.read_constant_value.Goals as goal

pub read_value-requires : goal.read_value-requires
read_value-requires c =
    record { type_at = c.requires; ends = ends-none refl }
