-- `layout::pass::pass_label` meets its contract: each way has its rule in `Passing`. Assumes nothing.
use Rattle.layout.proofs.Passing.{label-passed}
use Rattle.layout.proofs.pass.pass_label.Goals as goal

pub returns-in-One : goal.returns-in-One
returns-in-One c =
    search label-passed

pub returns-in-Two : goal.returns-in-Two
returns-in-Two c =
    search label-passed

pub returns-in-Is-required_mark : goal.returns-in-Is-required_mark
returns-in-Is-required_mark c =
    search label-passed

pub returns-in-Refused-required_mark : goal.returns-in-Refused-required_mark
returns-in-Refused-required_mark c =
    search label-passed

pub returns-in-Refused-pass_long : goal.returns-in-Refused-pass_long
returns-in-Refused-pass_long c =
    search label-passed

pub returns-in-Refused : goal.returns-in-Refused
returns-in-Refused c =
    search label-passed
