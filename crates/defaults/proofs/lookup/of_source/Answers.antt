-- `defaults::lookup::of_source` meets its contract: each answer has its law in `Taking`. Assumes nothing.
use Rattle.defaults.proofs.Taking.{source_none, source_stuck, source-value, source_taken}
use Rattle.defaults.proofs.lookup.of_source.Goals as goal

pub returns-then-n-source_index : goal.returns-then-n-source_index
returns-then-n-source_index c =
    λ P. source_none c.args.l _ P c.if-n-source_index.true

pub unless_null-requires : goal.unless_null-requires
unless_null-requires c =
    record { span_in = c.requires.span_in; value_at = source-value c.args.l _ c.requires.each_at c.if-n-source_index.false c.read_leaf_values.ensures c.in-To.is }

pub returns-in-To : goal.returns-in-To
returns-in-To c =
    λ P. source_taken c.args.l _ P c.if-n-source_index.false c.read_leaf_values.ensures c.in-To.is c.unless_null.result
    c.unless_null.ensures

pub returns-in-Refused : goal.returns-in-Refused
returns-in-Refused c =
    λ P. source_stuck c.args.l _ P c.if-n-source_index.false c.read_leaf_values.ensures c.in-Refused.is
