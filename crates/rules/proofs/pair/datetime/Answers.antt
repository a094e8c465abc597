-- `rules::pair::datetime` meets its contract: each way rewrites by the tests that led there.
use Rattle.rules.proofs.pair.datetime.Goals as goal

pub returns-then-p : goal.returns-then-p
returns-then-p c =
    rw c.if-p.true c.attach_cast.ensures

pub returns-then-same_as_utc : goal.returns-then-same_as_utc
returns-then-same_as_utc c =
    rw (c.if-p.false, ← c.same_as_utc.ensures, c.if-same_as_utc.true) c.attach_cast-then-same_as_utc.ensures

pub returns-else-same_as_utc : goal.returns-else-same_as_utc
returns-else-same_as_utc c =
    rw (c.if-p.false, ← c.same_as_utc.ensures, c.if-same_as_utc.false)
