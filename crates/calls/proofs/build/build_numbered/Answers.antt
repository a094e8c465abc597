-- `calls::build::build_numbered` meets its contract. Assumes nothing.
use Rattle.calls.proofs.Plans.{both_at, both-refused, by_number-refused, by_number_untabled, by_number-built, plan_as, plan-kept}
use Rattle.defaults.proofs.Whole.{table_at, table-refused, table-small}
use Rattle.calls.proofs.Plans.{indexed-read}
use Rattle.calls.proofs.build.build_numbered.Goals as goal

pub build_plan-requires : goal.build_plan-requires
build_plan-requires c =
    let B = both_at _ _ _ c.read_both.result c.read_both.ensures c.in-Read.is in let G = table_at _ _ _ c.read_table.ensures.value c.in-Read-read_table.is in record { both_in = (B.from, (B.to, B.taken)); indexed_table_at = (G.entries, λ n. indexed-read c.read_table.result c.read_table.ensures.indexed_table c.in-Read-read_table.is); target_len_bound = (B.small, table-small _ G.reads, B.starts) }

pub returns-in-Read-read_table : goal.returns-in-Read-read_table
returns-in-Read-read_table c =
    let B = both_at _ _ _ c.read_both.result c.read_both.ensures c.in-Read.is in let G = table_at _ _ _ c.read_table.ensures.value c.in-Read-read_table.is in let all = plan_as _ (by_number-built _ _ _ _ _ _ _ B G) (c.build_plan.ensures G.entries B.from B.to) in record { value = all.0; plan_after = all.1 }

pub returns-in-Refused-read_table : goal.returns-in-Refused-read_table
returns-in-Refused-read_table c =
    let B = both_at _ _ _ c.read_both.result c.read_both.ensures c.in-Read.is in let all = plan-kept _ (by_number_untabled _ _ _ _ _ _ _ B (table-refused _ c.read_table.ensures.value c.in-Refused-read_table.is)) in record { value = all.0; plan_after = all.1 }

pub returns-in-Refused : goal.returns-in-Refused
returns-in-Refused c =
    let all = plan-kept _ (by_number-refused _ _ _ _ _ _ _ (both-refused _ _ _ c.read_both.result c.read_both.ensures c.in-Refused.is)) in record { value = all.0; plan_after = all.1 }
