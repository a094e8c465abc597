use Rattle.selector.proofs.Answers.{written-length, written-refused}
use borrow.Author.Rules.{rules}
use Rattle.selector.proofs.written.Goals as goal

pub returns-in-Written : goal.returns-in-Written
returns-in-Written c =
    search (written-length, rules)

pub returns-in-Refused : goal.returns-in-Refused
returns-in-Refused c =
    search (written-refused, rules)
