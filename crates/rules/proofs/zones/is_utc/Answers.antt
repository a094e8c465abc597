-- `rules::zones::is_utc` meets its contract: the texts in turn.
use Rattle.rules.proofs.Utc.{utc-absent, utc-text, utc-etc, utc-z}
use Rattle.rules.proofs.zones.is_utc.Goals as goal

pub returns-then-same_bytes : goal.returns-then-same_bytes
returns-then-same_bytes c =
    utc-absent _ c.same_bytes.ensures c.if-same_bytes.true

pub returns-then-same_bytes-2 : goal.returns-then-same_bytes-2
returns-then-same_bytes-2 c =
    utc-text _ c.same_bytes.ensures c.if-same_bytes.false
    c.same_bytes-2.ensures c.if-same_bytes-2.true

pub returns-then-same_bytes-3 : goal.returns-then-same_bytes-3
returns-then-same_bytes-3 c =
    utc-etc _
    c.same_bytes.ensures c.if-same_bytes.false
    c.same_bytes-2.ensures c.if-same_bytes-2.false
    c.same_bytes-3.ensures c.if-same_bytes-3.true

pub returns : goal.returns
returns c =
    utc-z _
    c.same_bytes.ensures
    c.if-same_bytes.false
    c.same_bytes-2.ensures c.if-same_bytes-2.false
    c.same_bytes-3.ensures c.if-same_bytes-3.false
    c.same_bytes-4.ensures
