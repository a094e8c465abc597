use Rattle.store.specs.code.Overlay.{overlay}
use Rattle.values.specs.Encode.{encode_value}
use mathlib.Core.Path.{refl}
use Rattle.raw.proofs.copy.put_null.Goals as goal

pub returns : goal.returns
returns c =
    unfold encode_value overlay in record { ends = refl; stored = c.put.ensures }
