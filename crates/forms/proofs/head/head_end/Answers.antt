-- `forms::head::head_end` meets its contract: a case for each answer of `head`. Assumes nothing.
use borrow.Author.Rules.{rules}
use Rattle.forms.proofs.Heads.{head-ends}
use Rattle.forms.proofs.head.head_end.Goals as goal

pub returns-in-Leaf : goal.returns-in-Leaf
returns-in-Leaf c =
    search (head-ends, rules)

pub returns-in-Struct : goal.returns-in-Struct
returns-in-Struct c =
    search (head-ends, rules)

pub returns-in-List : goal.returns-in-List
returns-in-List c =
    search (head-ends, rules)

pub returns-in-Array : goal.returns-in-Array
returns-in-Array c =
    search (head-ends, rules)

pub returns-in-Refused : goal.returns-in-Refused
returns-in-Refused c =
    search (head-ends, rules)
