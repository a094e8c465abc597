-- `rules::pair::decimal` meets its contract: each arm is told how the parameters compare. Assumes nothing.
use Rattle.rules.proofs.pair.decimal.Goals as goal

pub returns-in-Identical : goal.returns-in-Identical
returns-in-Identical c =
    rw c.in-Identical.is

pub returns-in-SameAsUtc : goal.returns-in-SameAsUtc
returns-in-SameAsUtc c =
    rw c.in-SameAsUtc.is

pub returns-in-Widened : goal.returns-in-Widened
returns-in-Widened c =
    rw c.in-Widened.is c.attach_cast.ensures

pub returns-in-Different : goal.returns-in-Different
returns-in-Different c =
    rw c.in-Different.is
