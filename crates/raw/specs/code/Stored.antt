-- Bytes that were stored.
use Rattle.std.specs.Prelude.{ℕ, ◌+◌, ◌≡◌, Bool, true, false, [], ◌∷◌, length}
use Rattle.layout.specs.Bytes.{Bytes}
use Rattle.store.specs.code.Overlay.{overlay}
use Rattle.store.specs.LittleEndian.{little_bytes}

-- the bytes b were stored from index k on, and r is where they end
pub record Stores (out : Bytes) (k : ℕ) (b : Bytes) (r : ℕ) (out' : Bytes) : Type 0 where
  pub ends : r ≡ k + length b
  pub stored : out' ≡ overlay out k b

-- what stands before the parts of a struct or an array, and of a list of m
abbrev pub lead : Bool → ℕ → Bytes
lead false m = 1 ∷ []
lead true m = 1 ∷ little_bytes 2 m
