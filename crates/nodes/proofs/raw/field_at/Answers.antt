-- `nodes::raw::field_at` meets its contract: the column stands after those before it, and its value after theirs.
-- Assumes nothing.
use Rattle.nodes.proofs.Node.{field_past, field_front, field_found, field-unlabelled, field_unread}
use Rattle.nodes.proofs.raw.field_at.Goals as goal

pub returns-then-n-k : goal.returns-then-n-k
returns-then-n-k c =
    λ X. field_past X c.if-n-k.true

pub read_fields-requires : goal.read_fields-requires
read_fields-requires c =
    record { columns_at = field_front c.requires.row_at c.if-n-k.false; ends = c.requires.ends }

pub returns-in-Is : goal.returns-in-Is
returns-in-Is c =
    λ X. field_found X c.if-n-k.false c.read_fields.ensures c.in-To.is c.label.ensures.result_value c.in-Is.is

pub returns-in-Refused-label : goal.returns-in-Refused-label
returns-in-Refused-label c =
    λ X. field-unlabelled X c.if-n-k.false c.read_fields.ensures c.in-To.is c.label.ensures.result_value c.in-Refused-label.is

pub returns-in-Refused : goal.returns-in-Refused
returns-in-Refused c =
    λ X. field_unread X c.if-n-k.false c.read_fields.ensures c.in-Refused.is
