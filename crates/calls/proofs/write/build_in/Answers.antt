-- `calls::write::build_in` meets its contract. Assumes nothing.
use Rattle.calls.proofs.Plans.{count-is, columns-room, plan-refused, plan-written}
use Rattle.matching.specs.Build.{build_from}
use Rattle.defaults.specs.Lookup.{get_default_value}
use mathlib.Core.Path.{◌∙◌}
use native.Mathlib.Omega.{arith}
use Rattle.calls.proofs.write.build_in.Goals as goal

pub build_columns-requires : goal.build_columns-requires
build_columns-requires c =
    record { both_in = c.requires.both_in; indexed_table_at = c.requires.indexed_table_at; target_len_bound = c.requires.target_len_bound }

pub overflow_add-len : goal.overflow_add-len
overflow_add-len c =
    omega (
      arith,
      columns-room (build_from c.args.build.matching c.args.build.policy (get_default_value c.requires.indexed_table_at.0.entries
          c.args.build.defaults.source_index) c.requires.both_in.1.0.columns c.requires.both_in.0.columns 0) c.requires.both_in.1.0 (c.build_columns.ensures c.requires.indexed_table_at.0 c.requires.both_in.0 c.requires.both_in.1.0) c.in-Done.is,
      c.requires.target_len_bound,
    )

pub write_plan-requires : goal.write_plan-requires
write_plan-requires c =
    omega (arith, c.build_columns.auto.out, c.put_plan_head.auto.out, c.requires.room_len_bound)

pub returns-in-Failed : goal.returns-in-Failed
returns-in-Failed c =
    λ T P Q. plan-refused _ (build_from c.args.build.matching c.args.build.policy (get_default_value T.entries
    c.args.build.defaults.source_index) Q.columns P.columns 0) (c.build_columns.ensures T P Q) c.in-Failed.is

pub returns-in-Done : goal.returns-in-Done
returns-in-Done c =
    λ T P Q.
    plan-written c.args.plan.now c.args.room.now (build_from c.args.build.matching c.args.build.policy (get_default_value
    T.entries c.args.build.defaults.source_index) Q.columns P.columns 0) c.write_plan.result _
    (count-is c.args.build.matching c.args.build.policy (get_default_value T.entries c.args.build.defaults.source_index)
    P.columns Q)
    (c.build_columns.ensures T P Q) c.in-Done.is c.put_plan_head.ensures c.put_plan_head.auto.out
    (c.build_columns.auto.out ∙ c.put_plan_head.auto.out) c.write_plan.ensures
