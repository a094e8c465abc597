-- `defaults::index::push` meets its contract. Assumes nothing.
use Rattle.defaults.proofs.index.push.Goals as goal

pub returns : goal.returns
returns c =
    rw c.head_of-h.ensures.value
