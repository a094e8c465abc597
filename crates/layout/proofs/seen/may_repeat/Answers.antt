-- `layout::seen::may_repeat` meets its contract. Assumes nothing.
use Rattle.layout.proofs.Noting.{may_far, may_label, may_none}
use Rattle.layout.proofs.Ways.{label_in}
use borrow.Author.Rules.{rules}
use Rattle.layout.proofs.seen.may_repeat.Goals as goal

pub returns-then-x-eq-FAR : goal.returns-then-x-eq-FAR
returns-then-x-eq-FAR c =
    search (may_far, rules)

pub same_label-requires : goal.same_label-requires
same_label-requires c =
    record { len_in_bounds = search (label_in, rules); len_in_bounds_2 = search (label_in, rules) }

pub returns-in-Is : goal.returns-in-Is
returns-in-Is c =
    search (may_label, rules)

pub returns-in-Refused : goal.returns-in-Refused
returns-in-Refused c =
    search (may_none, rules)
