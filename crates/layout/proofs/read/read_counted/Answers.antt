-- `layout::read::read_counted` meets its contract: each way has its rule in `Top`. Assumes nothing.
use mathlib.Core.Path.{sym}
use Rattle.layout.proofs.Top.{layout-read, layout-longer, layout-broken, layout_uncounted}
use Rattle.layout.proofs.read.read_counted.Goals as goal

pub shape_of-seen-then-e-s : goal.shape_of-seen-then-e-s
shape_of-seen-then-e-s c =
    sym c.read_columns.ensures.keeps.long

pub returns-then-e-s : goal.returns-then-e-s
returns-then-e-s c =
    layout-read _ _ c.short.ensures c.in-Is.is c.top_rule-top.ensures c.inner_rule-inner.ensures
    c.read_columns.ensures.value c.in-To.is c.if-e-s.true

pub shape_of-seen-else-e-s : goal.shape_of-seen-else-e-s
shape_of-seen-else-e-s c =
    sym c.read_columns.ensures.keeps.long

pub returns-else-e-s : goal.returns-else-e-s
returns-else-e-s c =
    search layout-longer

pub shape_of-seen-in-Refused-read_columns : goal.shape_of-seen-in-Refused-read_columns
shape_of-seen-in-Refused-read_columns c =
    sym c.read_columns.ensures.keeps.long

pub returns-in-Refused-read_columns : goal.returns-in-Refused-read_columns
returns-in-Refused-read_columns c =
    search layout-broken

pub returns-in-Refused : goal.returns-in-Refused
returns-in-Refused c =
    search layout_uncounted
