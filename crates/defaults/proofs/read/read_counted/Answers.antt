-- `defaults::read::read_counted` meets its contract: each way has its rule in `Top`. Assumes nothing.
use Rattle.defaults.proofs.Top.{counted_at, counted-ways}
use native.Mathlib.Omega.{arith}
use borrow.Author.Rules.{rules}
use Rattle.defaults.proofs.read.read_counted.Goals as goal

pub read_entries-requires : goal.read_entries-requires
read_entries-requires c =
    let e = counted_at _ c.args.version c.short.ensures c.in-Is.is in (c.requires.0, omega arith, c.requires.1)

pub returns-then-e-s : goal.returns-then-e-s
returns-then-e-s c =
    record { value = search (counted-ways, rules); indexed_table = c.read_entries.ensures.indexed _ c.in-To.is }

pub returns-else-e-s : goal.returns-else-e-s
returns-else-e-s c =
    record { value = search (counted-ways, rules); indexed_table = tt }

pub returns-in-Refused-read_entries : goal.returns-in-Refused-read_entries
returns-in-Refused-read_entries c =
    record { value = search (counted-ways, rules); indexed_table = tt }

pub returns-in-Refused : goal.returns-in-Refused
returns-in-Refused c =
    record { value = search (counted-ways, rules); indexed_table = tt }
