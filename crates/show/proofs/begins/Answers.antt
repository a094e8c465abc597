-- `show::begins` meets its contract. Assumes nothing.
use native.Mathlib.Omega.{arith}
use mathlib.Core.Path.{sym}
use lib.ListN.{length}
use lib.Seq.{length-take-le}
use Rattle.show.proofs.Marks.{not_begun}
use Rattle.show.proofs.begins.Goals as goal

pub returns-then-file-n : goal.returns-then-file-n
returns-then-file-n c =
    search not_begun

pub slice_bounds-same_bytes-end : goal.slice_bounds-same_bytes-end
slice_bounds-same_bytes-end c =
    sym (length-take-le (length c.args.mark.now)
    c.args.file.now (omega arith))
