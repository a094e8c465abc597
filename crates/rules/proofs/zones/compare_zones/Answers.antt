-- `rules::zones::compare_zones` meets its contract: each way rewrites by the tests that led there.
use mathlib.Core.Path.{sym, ◌∙◌}
use Rattle.rules.proofs.Utc.{zones_identical, zones_utc, zones_left, zones_right}
use Rattle.rules.proofs.zones.compare_zones.Goals as goal

pub returns-then-same_bytes : goal.returns-then-same_bytes
returns-then-same_bytes c =
    zones_identical _ _ (sym c.same_bytes.ensures ∙ c.if-same_bytes.true)

pub returns-then-is_utc-2 : goal.returns-then-is_utc-2
returns-then-is_utc-2 c =
    zones_utc _ _
    (sym c.same_bytes.ensures ∙ c.if-same_bytes.false)
    (sym c.is_utc.ensures ∙ c.if-is_utc.true)
    (sym c.is_utc-then-is_utc.ensures ∙ c.if-is_utc-2.true)

pub returns-else-is_utc-2 : goal.returns-else-is_utc-2
returns-else-is_utc-2 c =
    zones_right _ _
    (sym c.same_bytes.ensures ∙ c.if-same_bytes.false)
    (sym c.is_utc.ensures ∙ c.if-is_utc.true)
    (sym c.is_utc-then-is_utc.ensures ∙ c.if-is_utc-2.false)

pub returns-else-is_utc : goal.returns-else-is_utc
returns-else-is_utc c =
    zones_left _ _
    (sym c.same_bytes.ensures ∙ c.if-same_bytes.false)
    (sym c.is_utc.ensures ∙ c.if-is_utc.false)
