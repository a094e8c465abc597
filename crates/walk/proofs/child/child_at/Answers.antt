-- `walk::child::child_at` meets its contract: a number is put at the path's end, and the part entered. Assumes nothing.
use Rattle.walk.specs.declared.walk.PartFound.{PartFound}
use Rattle.walk.proofs.Moving.{child_in}
use mathlib.Core.Path.{refl}
use Rattle.walk.proofs.child.child_at.Goals as goal

pub returns : goal.returns
returns c =
    λ plan S x f t M h p.
    let q = PartFound.At c.args.c in
    child_in M h p {q = q} (λ P m. record { answer = S.stands P m }) c.requires.1 refl c.enter.ensures
