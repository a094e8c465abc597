-- `describe::records::put_record` meets its contract: columns stand in a layout that was read. Assumes nothing.
use mathlib.Core.Path.{sym}
use Rattle.layout.proofs.View.{columns_moved}
use Rattle.layout.proofs.Whole.{layout-at}
use Rattle.describe.proofs.records.put_record.Goals as goal

pub put_read-requires : goal.put_read-requires
put_read-requires g c =
    let (L, z) = layout-at c.args.lay.now c.read_layout.ensures c.in-Read.is in
    columns_moved (sym z) L.columns
