-- `defaults::read::read_version` meets its contract: the tests say which mark it is. Assumes nothing.
use borrow.Author.Rules.{rules}
use mathlib.Core.Path.{sym}
use lib.Seq.{length-take-le}
use native.Mathlib.Omega.{arith}
use Rattle.layout.proofs.Ways.{ways}
use Rattle.defaults.specs.Table.{table_version}
use Rattle.defaults.proofs.Top.{mark-short}
use Rattle.defaults.proofs.read.read_version.Goals as goal

pub returns-then-s-lt5 : goal.returns-then-s-lt5
unfolding table_version
returns-then-s-lt5 c =
    search mark-short

pub slice_bounds-same_bytes-end : goal.slice_bounds-same_bytes-end
unfolding table_version
slice_bounds-same_bytes-end c =
    sym (length-take-le 5 c.args.s.now (omega arith))

pub returns-then-same_bytes : goal.returns-then-same_bytes
unfolding table_version
returns-then-same_bytes c =
    search (ways, rules) depth 12

pub slice_bounds-same_bytes-end-3 : goal.slice_bounds-same_bytes-end-3
unfolding table_version
slice_bounds-same_bytes-end-3 c =
    sym (length-take-le 5 c.args.s.now (omega arith))

pub returns-then-same_bytes-2 : goal.returns-then-same_bytes-2
unfolding table_version
returns-then-same_bytes-2 c =
    search (ways, rules) depth 12

pub returns : goal.returns
unfolding table_version
returns c =
    search (ways, rules) depth 12
