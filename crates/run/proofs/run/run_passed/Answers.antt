-- `run::run::run_passed` meets its contract: with a table or without. Assumes nothing.
use Rattle.ends.proofs.Entries.{ends-none}
use mathlib.Core.Path.{refl}
use borrow.Author.Rules.{rules}
use Rattle.run.proofs.run.run_passed.Goals as goal

pub run_record-requires : goal.run_record-requires
run_record-requires c =
    record { ends = ends-none refl; passed_at = c.requires }
