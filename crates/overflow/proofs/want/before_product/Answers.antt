-- `overflow::want::before_product` meets its contract: by the definition. Assumes nothing.
use Rattle.overflow.specs.code.Want.{bounds_before}
use mathlib.Core.Path.{refl}
use Rattle.overflow.proofs.want.before_product.Goals as goal

pub returns : goal.returns
returns c =
    unfold bounds_before in refl
