-- `layout::edition::read_edition` meets its contract: the tests say which mark it is. Assumes nothing.
use borrow.Author.Rules.{rules}
use mathlib.Core.Path.{sym}
use lib.Seq.{length-take-le}
use native.Mathlib.Omega.{arith}
use Rattle.layout.specs.Layout.{edition}
use Rattle.layout.proofs.Ways.{ways}
use Rattle.layout.proofs.Top.{mark-short}
use Rattle.layout.proofs.edition.read_edition.Goals as goal

pub returns-then-s-lt5 : goal.returns-then-s-lt5
unfolding edition
returns-then-s-lt5 c =
    search mark-short

pub slice_bounds-same_bytes-end : goal.slice_bounds-same_bytes-end
unfolding edition
slice_bounds-same_bytes-end c =
    sym (length-take-le 5 c.args.s.now (omega arith))

pub returns-then-same_bytes : goal.returns-then-same_bytes
unfolding edition
returns-then-same_bytes c =
    search (ways, rules) depth 12

pub slice_bounds-same_bytes-end-3 : goal.slice_bounds-same_bytes-end-3
unfolding edition
slice_bounds-same_bytes-end-3 c =
    sym (length-take-le 5 c.args.s.now (omega arith))

pub returns-then-same_bytes-2 : goal.returns-then-same_bytes-2
unfolding edition
returns-then-same_bytes-2 c =
    search (ways, rules) depth 12

pub slice_bounds-same_bytes-end-5 : goal.slice_bounds-same_bytes-end-5
unfolding edition
slice_bounds-same_bytes-end-5 c =
    sym (length-take-le 5 c.args.s.now (omega arith))

pub returns-then-same_bytes-3 : goal.returns-then-same_bytes-3
unfolding edition
returns-then-same_bytes-3 c =
    search (ways, rules) depth 12

pub returns : goal.returns
unfolding edition
returns c =
    search (ways, rules) depth 12
