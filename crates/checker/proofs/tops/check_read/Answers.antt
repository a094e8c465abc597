-- `checker::tops::check_read` meets its contract. Assumes nothing.
use Rattle.checker.proofs.Required.{types_refused, plan-passed, marks-met, marks-missed}
use Rattle.layout.specs.Tree.{fields_of}
use Rattle.checker.proofs.tops.check_read.Goals as goal

pub check_types-requires : goal.check_types-requires
check_types-requires c =
    let (L, ss, T) = c.requires.tops_at in record { tops_at = (fields_of L.columns, ss, T); columns_at = c.requires.columns_at }

pub meets_target-requires : goal.meets_target-requires
meets_target-requires c =
    let (L, ss, T) = c.requires.tops_at in
    (L, c.requires.columns_at, plan-passed L T c.requires.columns_at (c.check_types.ensures (fields_of L.columns) ss c.requires.columns_at T) c.in-Passed.is)

pub returns-then-meets_target : goal.returns-then-meets_target
returns-then-meets_target c =
    λ L ss Q T.
    let e = c.check_types.ensures (fields_of L.columns) ss Q T in
    marks-met L T Q e c.in-Passed.is (c.meets_target.ensures L Q (plan-passed L T Q e c.in-Passed.is)) c.if-meets_target.true

pub returns-else-meets_target : goal.returns-else-meets_target
returns-else-meets_target c =
    λ L ss Q T.
    let e = c.check_types.ensures (fields_of L.columns) ss Q T in
    marks-missed L T Q e c.in-Passed.is (c.meets_target.ensures L Q (plan-passed L T Q e c.in-Passed.is)) c.if-meets_target.false

pub returns-in-Refused : goal.returns-in-Refused
returns-in-Refused c =
    λ L ss Q T. types_refused L T Q (c.check_types.ensures (fields_of L.columns) ss Q T) c.in-Refused.is
