-- `layout::pass::pass_datetime` meets its contract: each way has its rule in `Passing`. Assumes nothing.
use Rattle.layout.proofs.Passing.{datetime_whole, datetime_zoneless, datetime_unitless}
use Rattle.layout.proofs.pass.pass_datetime.Goals as goal

pub returns-in-Is-text : goal.returns-in-Is-text
returns-in-Is-text c =
    search (datetime_whole, datetime_zoneless, datetime_unitless)

pub returns-in-Refused-text : goal.returns-in-Refused-text
returns-in-Refused-text c =
    search (datetime_whole, datetime_zoneless, datetime_unitless)

pub returns-in-Refused : goal.returns-in-Refused
returns-in-Refused c =
    search (datetime_whole, datetime_zoneless, datetime_unitless)
