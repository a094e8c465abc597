-- `calls::layouts::read_both` meets its contract. Assumes nothing.
use Rattle.layout.proofs.Whole.{layout-at, layout-refused}
use Rattle.calls.proofs.Plans.{first-refused, second-refused, both_read, both_differ}
use Rattle.calls.proofs.layouts.read_both.Goals as goal

pub returns-then-both : goal.returns-then-both
returns-then-both c =
    both_read _ _ _ c.read_layout.ensures c.read_layout-in-Read.ensures c.in-Read.is c.in-Read-read_layout.is c.takes.ensures c.takes-in-Read-read_layout.ensures
    c.both.ensures c.if-both.true

pub returns-else-both : goal.returns-else-both
returns-else-both c =
    both_differ _ _ _ c.read_layout.ensures c.read_layout-in-Read.ensures c.in-Read.is c.in-Read-read_layout.is c.takes.ensures c.takes-in-Read-read_layout.ensures
    c.both.ensures c.if-both.false

pub returns-in-Refused-read_layout : goal.returns-in-Refused-read_layout
returns-in-Refused-read_layout c =
    λ f. second-refused _ _ _ f (layout-at _ c.read_layout.ensures c.in-Read.is).0.reads (layout-refused _ c.read_layout-in-Read.ensures
    c.in-Refused-read_layout.is)

pub returns-in-Refused : goal.returns-in-Refused
returns-in-Refused c =
    λ f. first-refused _ _ _ f (layout-refused _ c.read_layout.ensures c.in-Refused.is)
