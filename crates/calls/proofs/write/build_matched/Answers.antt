-- `calls::write::build_matched` meets its contract. Assumes nothing.
use Rattle.calls.proofs.Plans.{attempt_answered, attempt_short, plan_again}
use Rattle.matching.specs.Build.{build_from}
use Rattle.defaults.specs.Lookup.{get_default_value}
use mathlib.Core.Path.{◌≡◌, ◌∙◌}
use Rattle.calls.proofs.write.build_matched.Goals as goal
use Rattle.calls.proofs.write.build_matched.Goals.{then-target-le1024+in_default, else-target-le1024}

-- an attempt in a room that was too short left the buffer as it was
kept : (c : goal.After-slice_known-4-1) → c.if-target-le1024.plan ≡ c.args.plan.now
kept c =
    elim c.if-target-le1024.branch [
      | then-target-le1024+in_default w ↦
          let (l, q) = attempt_short _ _ _ w.build_small.result _ (w.build_small.ensures c.requires.indexed_table_at.0 c.requires.both_in.0 c.requires.both_in.1.0) w.in_default.is in
          w.plan-is ∙ q
      | else-target-le1024 w ↦ w.plan-is
    ]

pub returns-in-Answer : goal.returns-in-Answer
returns-in-Answer c =
    λ T P Q. attempt_answered _ _ _ c.build_small.result _ (c.build_small.ensures T P Q) c.in-Answer.is

pub returns : goal.returns
returns c =
    λ T P Q.
    plan_again (build_from c.args.build.matching c.args.build.policy (get_default_value T.entries c.args.build.defaults.source_index)
    Q.columns P.columns 0) (kept c) (c.build_large.ensures T P Q)
