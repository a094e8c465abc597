-- `ends::table::keep_slot` meets its contract: one slot more that is true. Assumes nothing.
use mathlib.Core.Path.{refl}
use Rattle.ends.proofs.Entries.{ends-slot}
use borrow.Author.Rules.{rules}
use Rattle.ends.proofs.table.keep_slot.Goals as goal

pub returns-then-j-gt4097 : goal.returns-then-j-gt4097
returns-then-j-gt4097 c =
    record { ends = (λ v s T E. T); ends_len_unchanged = refl }

pub returns-then-n-gt16383 : goal.returns-then-n-gt16383
returns-then-n-gt16383 c =
    record { ends = (λ v s T E. T); ends_len_unchanged = refl }

pub returns : goal.returns
returns c =
    record { ends = (λ v s T E. ends-slot T c.args.d c.args.n c.requires.0 E); ends_len_unchanged = search rules }
