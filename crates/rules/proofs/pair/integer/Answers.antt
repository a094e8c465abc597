-- `rules::pair::integer` meets its contract: each arm rewrites by what it knows.
use Rattle.rules.proofs.pair.integer.Goals as goal

pub returns-then-flag : goal.returns-then-flag
returns-then-flag c =
    rw c.if-flag.true c.attach_cast.ensures

pub returns-else-flag : goal.returns-else-flag
returns-else-flag c =
    rw c.if-flag.false
