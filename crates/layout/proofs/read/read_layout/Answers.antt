-- `layout::read::read_layout` meets its contract: each way has its rule in `Top`. Assumes nothing.
use Rattle.layout.proofs.Top.{layout_big, layout_marked, layout_unmarked}
use Rattle.layout.proofs.read.read_layout.Goals as goal

pub returns-then-s-gt-LONGEST : goal.returns-then-s-gt-LONGEST
returns-then-s-gt-LONGEST c =
    search layout_big

pub returns-in-Is : goal.returns-in-Is
returns-in-Is c =
    search layout_marked

pub returns-in-Refused : goal.returns-in-Refused
returns-in-Refused c =
    search layout_unmarked
