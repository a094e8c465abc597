-- `describe::records::put_read` meets its contract: its record is read with an empty table. Assumes nothing.
use Rattle.ends.proofs.Entries.{ends-none}
use mathlib.Core.Path.{refl}
use Rattle.describe.proofs.records.put_read.Goals as goal

pub read_record-requires : goal.read_record-requires
read_record-requires g c =
    record { columns_at = c.requires; ends = ends-none refl }
