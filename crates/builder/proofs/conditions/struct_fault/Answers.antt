-- `builder::conditions::struct_fault` meets its contract. Assumes nothing.
use Rattle.builder.proofs.Whole.{fault_target, fault_incoming, fault-ignored, fault-none, fault-extra}
use mathlib.Core.Path.{ap}
use mathlib.Core.Bool.{not}
use Rattle.builder.proofs.conditions.struct_fault.Goals as goal

pub returns-then-not-distinct : goal.returns-then-not-distinct
returns-then-not-distinct c =
    λ P Q. fault_target c.args.build.policy c.args.build.matching Q.columns P.columns (c.distinct.ensures Q) (ap not c.if-not-distinct.true)

pub returns-then-not-distinct-2 : goal.returns-then-not-distinct-2
returns-then-not-distinct-2 c =
    λ P Q. fault_incoming c.args.build.policy c.args.build.matching Q.columns P.columns (c.distinct.ensures Q)
    (c.distinct-2.ensures P) (ap not c.if-not-distinct.false) (ap not c.if-not-distinct-2.true)

pub returns-then-ignores : goal.returns-then-ignores
returns-then-ignores c =
    λ P Q. fault-ignored c.args.build.policy c.args.build.matching Q.columns P.columns (c.distinct.ensures Q)
    (c.distinct-2.ensures P) (ap not c.if-not-distinct.false) (ap not c.if-not-distinct-2.false) c.ignores.ensures c.if-ignores.true

pub returns-then-no_extra : goal.returns-then-no_extra
returns-then-no_extra c =
    λ P Q. fault-none c.args.build.policy c.args.build.matching Q.columns P.columns (c.distinct.ensures Q)
    (c.distinct-2.ensures P) (ap not c.if-not-distinct.false) (ap not c.if-not-distinct-2.false) c.ignores.ensures c.if-ignores.false (c.no_extra.ensures P Q) c.if-no_extra.true

pub returns : goal.returns
returns c =
    λ P Q. fault-extra c.args.build.policy c.args.build.matching Q.columns P.columns (c.distinct.ensures Q)
    (c.distinct-2.ensures P) (ap not c.if-not-distinct.false) (ap not c.if-not-distinct-2.false) c.ignores.ensures c.if-ignores.false (c.no_extra.ensures P Q) c.if-no_extra.false
