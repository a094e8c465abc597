-- `defaults::read::same_owner` meets its contract: each pair has its rule. Assumes nothing.
use borrow.Author.Rules.{rules}
use Rattle.defaults.proofs.Top.{same-owner-ways}
use Rattle.defaults.proofs.read.same_owner.Goals as goal

pub returns-in-Every : goal.returns-in-Every
returns-in-Every c =
    search (same-owner-ways, rules)

pub returns-in-Every-b : goal.returns-in-Every-b
returns-in-Every-b c =
    search (same-owner-ways, rules)

pub returns-in-Only-b : goal.returns-in-Only-b
returns-in-Only-b c =
    search (same-owner-ways, rules)
