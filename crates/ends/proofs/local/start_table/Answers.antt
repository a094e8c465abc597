-- `ends::local::start_table` meets its contract: a table without entries is true, whatever its starts are counted from.
-- Assumes nothing.
use Rattle.ends.proofs.Entries.{ends-clear, ends-started}
use mathlib.Core.Path.{refl}
use borrow.Author.Rules.{rules}
use Rattle.ends.proofs.local.start_table.Goals as goal

pub returns-then-at-gt65535 : goal.returns-then-at-gt65535
returns-then-at-gt65535 c =
    record { ends = (λ v s. ends-clear c.requires); ends_len_unchanged = refl }

pub returns : goal.returns
returns c =
    record { ends = (λ v s. ends-started _ _ c.requires); ends_len_unchanged = search rules }
