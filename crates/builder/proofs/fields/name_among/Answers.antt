-- `builder::fields::name_among` meets its contract. Assumes nothing.
use Rattle.layout.specs.code.Answers.{span_at}
use Rattle.layout.specs.Find.{column_named}
use Rattle.layout.proofs.Finding.{by_name}
use Rattle.builder.proofs.Names.{found_some, found_none}
use Rattle.builder.proofs.fields.name_among.Goals as goal

pub returns-in-At : goal.returns-in-At
returns-in-At c =
    λ P. found_some c.args.v c.args.depth c.args.s.now (column_named (span_at c.args.t.now c.args.name) P.columns)
    (by_name c.args.v c.args.depth c.args.s.now c.column_named.result c.args.t.now c.args.name P.columns
    (c.column_named.ensures P)) c.in-At.is

pub returns-in-Absent : goal.returns-in-Absent
returns-in-Absent c =
    λ P. found_none c.args.v c.args.depth c.args.s.now (column_named (span_at c.args.t.now c.args.name) P.columns)
    (by_name c.args.v c.args.depth c.args.s.now c.column_named.result c.args.t.now c.args.name P.columns
    (c.column_named.ensures P)) c.in-Absent.is
