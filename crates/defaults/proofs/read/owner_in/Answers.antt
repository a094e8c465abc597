-- `defaults::read::owner_in` meets its contract. Assumes nothing.
use Rattle.defaults.proofs.read.owner_in.Goals as goal

pub returns-in-ByOwner : goal.returns-in-ByOwner
returns-in-ByOwner c =
    rw c.in-ByOwner.is
