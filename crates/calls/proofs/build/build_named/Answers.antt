-- `calls::build::build_named` meets its contract. Assumes nothing.
use Rattle.calls.proofs.Plans.{both_at, both-refused, no_table, by_name_refused, by_name_built, plan_as, plan-kept}
use native.Mathlib.Omega.{arith}
use Rattle.calls.proofs.build.build_named.Goals as goal

pub build_plan-requires : goal.build_plan-requires
build_plan-requires c =
    let B = both_at _ _ _ c.read_both.result c.read_both.ensures c.in-Read.is in record { both_in = (B.from, (B.to, B.taken)); indexed_table_at = (no_table _, λ n. absurd (omega (arith, n))); target_len_bound = (B.small, B.small, B.starts) }

pub returns-in-Read : goal.returns-in-Read
returns-in-Read c =
    let B = both_at _ _ _ c.read_both.result c.read_both.ensures c.in-Read.is in let T = no_table _ in let all = plan_as _ (by_name_built _ _ _ _ B T 0) (c.build_plan.ensures T B.from B.to) in record { value = all.0; plan_after = all.1 }

pub returns-in-Refused : goal.returns-in-Refused
returns-in-Refused c =
    let all = plan-kept _ (by_name_refused _ _ _ _ (both-refused _ _ _ c.read_both.result c.read_both.ensures c.in-Refused.is)) in record { value = all.0; plan_after = all.1 }
