-- `ends::table::keep_end` meets its contract: one entry more that is true. Assumes nothing.
use native.Mathlib.Omega.{arith}
use Rattle.ends.proofs.Entries.{kept_at}
use Rattle.ends.proofs.table.keep_end.Goals as goal

pub returns-then-ends-eq0 : goal.returns-then-ends-eq0
returns-then-ends-eq0 c =
    record { ends = (λ v s T E. c.keep_slot.ensures.ends v s T (kept_at _ _ _ (omega arith) (omega arith) E)); ends_len_unchanged = c.keep_slot.ensures.ends_len_unchanged }

pub returns : goal.returns
returns c =
    record { ends = (λ v s T E. c.keep_pair.ensures.ends v s T (kept_at _ _ _ (omega arith) (omega arith) E)); ends_len_unchanged = c.keep_pair.ensures.ends_len_unchanged }
