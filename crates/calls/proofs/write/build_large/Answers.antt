-- `calls::write::build_large` meets its contract. Assumes nothing.
use Rattle.calls.proofs.Plans.{attempt_answered, attempt_short, plan-long}
use native.Mathlib.Omega.{arith}
use Rattle.calls.proofs.write.build_large.Goals as goal

pub build_in-requires : goal.build_in-requires
build_in-requires c =
    record { both_in = c.requires.both_in; indexed_table_at = c.requires.indexed_table_at; target_len_bound = c.requires.target_len_bound; room_len_bound = omega arith }

pub returns-in-Answer : goal.returns-in-Answer
returns-in-Answer c =
    λ T P Q. attempt_answered _ _ _ c.build_in.result _ (c.build_in.ensures T P Q) c.in-Answer.is

pub returns-in-Short : goal.returns-in-Short
returns-in-Short c =
    λ T P Q.
    let (w, k) = attempt_short _ _ _ c.build_in.result _ (c.build_in.ensures T P Q) c.in-Short.is in
    plan-long _ w k
