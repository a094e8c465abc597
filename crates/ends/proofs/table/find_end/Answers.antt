-- `ends::table::find_end` meets its contract: what an entry that is true says. Assumes nothing.
use native.Mathlib.Omega.{arith}
use Rattle.ends.proofs.Entries.{found_at}
use Rattle.ends.proofs.table.find_end.Goals as goal

pub overflow_add-result : goal.overflow_add-result
overflow_add-result c =
    omega (
      arith,
      c.known_length-n.ensures.1,
      c.wide-base.ensures,
      c.type_inv.ends 0,
    )

pub returns : goal.returns
returns c =
    λ v s T. found_at _ _ (omega arith) c.if-n-eq0.false (c.known_length-n.ensures.0 v s T)
