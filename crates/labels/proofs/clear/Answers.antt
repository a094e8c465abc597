-- `labels::clear` meets its contract. Assumes nothing.
use mathlib.Core.Path.{refl}
use Rattle.labels.proofs.Filling.{cleared-start, cleared_more, cleared-end}
use borrow.Author.Rules.{rules}
use Rattle.labels.proofs.clear.Goals as goal

pub loop-k-init : goal.loop-k-init
loop-k-init c =
    (refl, cleared-start _)

pub loop-k-preserved : goal.loop-k-preserved
loop-k-preserved c =
    (search rules, cleared_more c.loop-k.invariant.1 c.loop-k-test.true)

pub returns : goal.returns
returns c =
    record { table_len_unchanged = c.loop-k.invariant.0; cleared = cleared-end c.loop-k.invariant.1 c.loop-k-test.false }
