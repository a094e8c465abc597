-- `index::columns::indexed_column` meets its contract: what stands after an entry stands in the row. Assumes nothing.
use Rattle.index.proofs.Passing.{past-last, from_start}
use Rattle.index.proofs.columns.indexed_column.Goals as goal

pub returns-then-n-p : goal.returns-then-n-p
returns-then-n-p c =
    λ P. past-last P c.args.k c.if-n-p.true

pub returns : goal.returns
returns c =
    λ P. from_start P c.args.k _
    (c.start_of-b.ensures _ _ _ c.requires.indexed P) c.if-n-p.false
    c.column_after.ensures
