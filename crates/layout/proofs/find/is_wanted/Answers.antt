-- `layout::find::is_wanted` meets its contract: a case for each thing that is looked for. Assumes nothing.
use Rattle.layout.proofs.Finding.{wanted_name}
use Rattle.layout.proofs.find.is_wanted.Goals as goal

pub returns-in-Name : goal.returns-in-Name
returns-in-Name c =
    search wanted_name

pub returns-in-Id : goal.returns-in-Id
returns-in-Id c =
    rw c.in-Id.is
