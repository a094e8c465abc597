-- A table of where structs end: what its entries say.
use Rattle.std.specs.Prelude.{ℕ, ◌+◌, ◌/◌, ◌%◌, ◌<◌, ◌≡◌, List, get_or}
use Rattle.layout.specs.Bytes.{Bytes}
use Rattle.layout.specs.code.Stands.{TypeAt}
use Rattle.layout.specs.declared.edition.Edition.{Edition}
use Rattle.ends.specs.declared.table.EndFound.{EndFound}

-- the type that stands at an offset ends at e, however many levels are allowed
pub record EndAt (v : Edition) (s : Bytes) (at e : ℕ) : Type 0 where
  pub depth : ℕ
  pub type : TypeAt v depth s at
  pub ends : type.end ≡ e

-- a length is 0, or that of the type that stands at an offset
abbrev pub LengthIs : Edition → Bytes → ℕ → ℕ → Type 0
LengthIs v s at n = (n ≡ 0 → ⊥) → EndAt v s at (at + n)

-- every entry is true: in a slot four times a length and the rest of the start, in a pair a start and a length
pub record Ends (v : Edition) (s : Bytes) (ends : List ℕ) : Type 0 where
  pub slots : get_or ends 1 0 ≡ 0 → (d : ℕ) → get_or ends (d / 4 + 2) 0 % 4 ≡ d % 4 → LengthIs v s (get_or ends 0 0 + d) (get_or ends (d / 4 + 2) 0 / 4)
  pub pairs : (get_or ends 1 0 ≡ 0 → ⊥) → (i : ℕ) → i % 2 ≡ 0 → 1 < i → LengthIs v s (get_or ends 0 0 + get_or ends i 0) (get_or ends (i + 1) 0)

-- a table without entries
pub record Clear (ends : List ℕ) : Type 0 where
  pub zero : (i : ℕ) → get_or ends i 0 ≡ 0

-- what is found is true
abbrev pub FoundIs : Edition → Bytes → ℕ → EndFound → Type 0
FoundIs v s at (EndFound.At e) = EndAt v s at e
FoundIs v s at EndFound.Unknown = Unit {0}
