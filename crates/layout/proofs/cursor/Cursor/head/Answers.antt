-- `layout::cursor::Cursor::head` meets its contract: each way through it is found by the rules `ways`. Assumes nothing.
use borrow.Author.Rules.{rules}
use Rattle.layout.proofs.Ways.{ways, kind-decimal}
use Rattle.layout.specs.Layout.{kind, kind_of}
use Rattle.layout.proofs.cursor.Cursor.head.Goals as goal

pub returns-in-14 : goal.returns-in-14
returns-in-14 c =
    unfold kind kind_of in record { result_value = search (ways, rules) depth 12; head_in = search (ways, rules) depth 12 }

pub returns-in-18 : goal.returns-in-18
returns-in-18 c =
    unfold kind kind_of in record { result_value = search (ways, rules) depth 12; head_in = search (ways, rules) depth 12 }

pub returns-in-19 : goal.returns-in-19
returns-in-19 c =
    unfold kind kind_of in record { result_value = search (ways, rules) depth 12; head_in = search (ways, rules) depth 12 }

pub returns-in-20 : goal.returns-in-20
returns-in-20 c =
    unfold kind kind_of in record { result_value = search (ways, rules) depth 12; head_in = search (ways, rules) depth 12 }

pub returns-in-21 : goal.returns-in-21
returns-in-21 c =
    record { result_value = search (kind-decimal, rules); head_in = search rules }

pub returns-in-Known : goal.returns-in-Known
returns-in-Known c =
    unfold kind kind_of in record { result_value = search (ways, rules) depth 12; head_in = search (ways, rules) depth 12 }

pub returns-in-Unknown : goal.returns-in-Unknown
returns-in-Unknown c =
    unfold kind kind_of in record { result_value = search (ways, rules) depth 12; head_in = search (ways, rules) depth 12 }

pub returns-in-Refused : goal.returns-in-Refused
returns-in-Refused c =
    unfold kind kind_of in record { result_value = search (ways, rules) depth 12; head_in = search (ways, rules) depth 12 }
