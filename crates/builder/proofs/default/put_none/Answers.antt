-- `builder::default::put_none` meets its contract. Assumes nothing.
use Rattle.values.specs.Encode.{encode_value}
use Rattle.store.specs.code.Overlay.{overlay}
use mathlib.Core.Path.{refl}
use Rattle.builder.proofs.default.put_none.Goals as goal

pub returns : goal.returns
returns c =
    unfold overlay encode_value in record { value = refl; out_after = c.put.ensures }
