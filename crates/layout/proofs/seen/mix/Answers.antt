-- `layout::seen::mix` meets its contract. Assumes nothing.
use mathlib.Core.Path.{refl}
use Rattle.layout.specs.code.Seen.{mixed}
use Rattle.layout.proofs.seen.mix.Goals as goal

pub returns : goal.returns
returns c =
    unfold mixed in refl
