use Rattle.selector.proofs.Answers.{checked-passed, checked_refused}
use borrow.Author.Rules.{rules}
use Rattle.selector.proofs.checked.Goals as goal

pub returns-in-Passed : goal.returns-in-Passed
returns-in-Passed c =
    search (checked-passed, rules)

pub returns-in-Refused : goal.returns-in-Refused
returns-in-Refused c =
    search (checked_refused, rules)
