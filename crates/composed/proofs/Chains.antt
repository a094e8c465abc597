-- The loop over the inputs of casts and renames ends. Assumes nothing.
use Prim.Native.Nat.{ℕ, ◌-◌, ◌<◌}
use native.Mathlib.Omega.{arith}
use lib.ListN.{length}
use Rattle.layout.specs.Bytes.{Bytes}
use Rattle.walk.specs.code.Stands.{SelectorAt}
use Rattle.walk.specs.code.Parts.{CastAt, RenameAt}
use Rattle.walk.proofs.View.{starts-inside}

module _ {s : Bytes} {at m : ℕ} (P : SelectorAt s at) where
  pub cast-falls : CastAt s at P m → length s - m < length s - at
  cast-falls K = omega (arith, K.starts, starts-inside P)

  pub rename-falls : RenameAt s at P m → length s - m < length s - at
  rename-falls K = omega (arith, K.starts, starts-inside P)
