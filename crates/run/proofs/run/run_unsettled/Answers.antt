-- `run::run::run_unsettled` meets its contract: by the table that is lent, or by one of its own. Assumes nothing.
use borrow.Author.Rules.{rules}
use Rattle.run.proofs.run.run_unsettled.Goals as goal

pub run_filled-requires : goal.run_filled-requires
run_filled-requires c =
    record { filled_at = c.requires.filled_at; longest_value = c.requires.longest_value }
