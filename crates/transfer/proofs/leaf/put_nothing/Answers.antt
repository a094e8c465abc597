use mathlib.Core.Bool.{true}
use mathlib.Core.Path.{refl}
use Rattle.transfer.proofs.leaf.put_nothing.Goals as goal

pub returns : goal.returns
returns c =
    c.limited.ensures true _ _ _ _ refl c.put_null.ensures
