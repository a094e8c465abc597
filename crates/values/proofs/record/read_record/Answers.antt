-- `values::record::read_record` meets its contract: each way has its law in `Whole`. Assumes nothing.
use Rattle.values.proofs.Whole.{record_long, record_broken, record-left, record_fits}
use Rattle.values.specs.Filled.{required_of}
use Rattle.values.proofs.record.read_record.Goals as goal

pub returns-then-rec-gt-LONGEST : goal.returns-then-rec-gt-LONGEST
returns-then-rec-gt-LONGEST c =
    λ P. record_long required_of P.columns _ c.if-rec-gt-LONGEST.true

pub marked_fields-requires : goal.marked_fields-requires
marked_fields-requires c =
    record { columns_at = c.requires.columns_at; ends = c.requires.ends }

pub returns-then-e-rec : goal.returns-then-e-rec
returns-then-e-rec c =
    λ P. record_fits required_of P.columns _ P.end c.if-rec-gt-LONGEST.false (c.marked_fields.ensures P) c.in-To.is c.if-e-rec.true

pub returns-else-e-rec : goal.returns-else-e-rec
returns-else-e-rec c =
    λ P. record-left required_of P.columns _ P.end c.if-rec-gt-LONGEST.false (c.marked_fields.ensures P) c.in-To.is c.if-e-rec.false

pub returns-in-Refused : goal.returns-in-Refused
returns-in-Refused c =
    λ P. record_broken required_of P.columns _ P.end c.if-rec-gt-LONGEST.false (c.marked_fields.ensures P) c.in-Refused.is c.record_number.ensures
