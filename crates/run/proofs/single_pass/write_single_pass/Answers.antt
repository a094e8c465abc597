use Rattle.run.proofs.Running.{single_pass-inside, single_pass_handed}
use native.Mathlib.Omega.{arith}
use borrow.Author.Rules.{rules}
use Rattle.run.proofs.single_pass.write_single_pass.Goals as goal

pub transfer_record-requires : goal.transfer_record-requires
transfer_record-requires c =
    record { ends = c.requires.ends; row_at = c.requires.row_at; selectors_at = c.requires.selectors_at; rec_len_bound = (omega (arith, c.requires.rec_len_bound.0), c.requires.rec_len_bound.1) }

pub hand_over-requires : goal.hand_over-requires
hand_over-requires c =
    λ l.
    single_pass-inside c.requires.row_at.values.values c.requires.selectors_at.trees c.requires.longest_value (c.transfer_record.ensures c.requires.row_at c.requires.selectors_at) c.in-To.is

pub returns-in-To : goal.returns-in-To
returns-in-To c =
    λ X S.
    single_pass_handed X.values.values S.trees c.requires.longest_value (c.transfer_record.ensures X S) c.in-To.is c.hand_over.ensures
