-- `selector::selector_read_layout` meets its contract: what `read_layout` answered, as a number. Assumes nothing.
use Rattle.selector.proofs.Answers.{layout-accepted, layout-refused}
use Rattle.layout.specs.Layout.{layout}
use Rattle.selector.proofs.selector_read_layout.Goals as goal

pub returns-in-Read : goal.returns-in-Read
returns-in-Read c =
    layout-accepted (layout c.args.bytes.now) c.read_layout.ensures
    c.in-Read.is

pub returns-in-Refused : goal.returns-in-Refused
returns-in-Refused c =
    layout-refused (layout c.args.bytes.now)
    c.read_layout.ensures c.in-Refused.is c.refusal.ensures
