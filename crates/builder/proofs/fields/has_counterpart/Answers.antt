-- `builder::fields::has_counterpart` meets its contract. Assumes nothing.
use Rattle.layout.specs.code.Answers.{label_at}
use Rattle.layout.specs.Find.{counterpart}
use Rattle.builder.proofs.Names.{found_some, found_none}
use Rattle.builder.proofs.fields.has_counterpart.Goals as goal

pub returns-in-At : goal.returns-in-At
returns-in-At c =
    λ P. found_some c.args.build.target c.args.depth c.args.target.now (counterpart c.args.build.matching (label_at c.args.incoming.now c.args.l) P.columns) (c.find_in.ensures P) c.in-At.is

pub returns-in-Absent : goal.returns-in-Absent
returns-in-Absent c =
    λ P. found_none c.args.build.target c.args.depth c.args.target.now (counterpart c.args.build.matching (label_at c.args.incoming.now c.args.l) P.columns) (c.find_in.ensures P) c.in-Absent.is
