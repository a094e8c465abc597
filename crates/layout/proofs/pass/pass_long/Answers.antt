-- `layout::pass::pass_long` meets its contract: each way has its rule in `Passing`. Assumes nothing.
use Rattle.layout.proofs.Passing.{long_in, long-past, long-short}
use Rattle.layout.proofs.pass.pass_long.Goals as goal

pub returns-then-s-at : goal.returns-then-s-at
returns-then-s-at c =
    search (long_in, long-past, long-short)

pub returns-then-s-at-ge4 : goal.returns-then-s-at-ge4
returns-then-s-at-ge4 c =
    search (long_in, long-past, long-short)

pub returns-else-s-at-ge4 : goal.returns-else-s-at-ge4
returns-else-s-at-ge4 c =
    search (long_in, long-past, long-short)
