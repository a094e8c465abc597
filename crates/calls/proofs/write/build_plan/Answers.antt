-- `calls::write::build_plan` meets its contract. Assumes nothing.
use Rattle.calls.proofs.Plans.{build_extra, build-plain, answered-refused, answered_as, plan-kept, plan_as}
use Rattle.defaults.specs.Lookup.{get_default_value}
use lib.ListN.{length}
use Rattle.calls.proofs.write.build_plan.Goals as goal

pub returns-in-At : goal.returns-in-At
returns-in-At c =
    λ T P Q.
    let d = get_default_value T.entries c.args.build.defaults.source_index in
    plan-kept c.args.plan.now (answered-refused (length c.args.plan.now)
    (build_extra c.args.build.matching c.args.build.policy d P.columns Q.columns (c.extra_column.ensures P Q) c.in-At.is))

pub returns-in-Nothing : goal.returns-in-Nothing
returns-in-Nothing c =
    λ T P Q.
    let d = get_default_value T.entries c.args.build.defaults.source_index in
    plan_as c.args.plan.now (answered_as (length c.args.plan.now)
    (build-plain c.args.build.matching c.args.build.policy d P.columns Q.columns (c.extra_column.ensures P Q)
    c.in-Nothing.is))
    (c.build_matched.ensures T P Q)
