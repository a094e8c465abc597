-- `rules::pair::attach_cast` meets its contract: the branch says whether the flag is on.

use Rattle.rules.proofs.pair.attach_cast.Goals as goal

pub returns-then-flag : goal.returns-then-flag
returns-then-flag c =
    rw c.if-flag.true

pub returns-else-flag : goal.returns-else-flag
returns-else-flag c =
    rw c.if-flag.false
