-- `defaults::read::read_table` meets its contract: each way has its rule in `Top`. Assumes nothing.
use native.Mathlib.Omega.{arith}
use borrow.Author.Rules.{rules}
use Rattle.defaults.proofs.Top.{table-ways}
use Rattle.defaults.proofs.read.read_table.Goals as goal

pub returns-then-s-gt-LONGEST : goal.returns-then-s-gt-LONGEST
returns-then-s-gt-LONGEST c =
    record { value = search (table-ways, rules); indexed_table = tt }

pub read_counted-requires : goal.read_counted-requires
read_counted-requires c =
    (omega arith, c.requires (omega arith))

pub returns-in-Is : goal.returns-in-Is
returns-in-Is c =
    record { value = search (table-ways, rules); indexed_table = c.read_counted.ensures.indexed_table }

pub returns-in-Refused : goal.returns-in-Refused
returns-in-Refused c =
    record { value = search (table-ways, rules); indexed_table = tt }
