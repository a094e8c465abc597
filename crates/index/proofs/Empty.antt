-- A table with no entry tells nothing. Assumes nothing.
use Prim.Native.Nat.{ℕ}
use mathlib.Core.Path.{◌≡◌}
use mathlib.Core.List.{List}
use native.Mathlib.Omega.{arith}
use lib.ListN.{length}
use Rattle.layout.specs.Bytes.{Bytes}
use Rattle.layout.specs.declared.edition.Edition.{Edition}
use Rattle.index.specs.code.Indexed.{Indexed, IndexedRow}

pub indexed-none : {v : Edition} {s : Bytes} {n at stride : ℕ} {index : List ℕ} → length index ≡ 0 → Indexed v s n at stride index
indexed-none e = record { starts = λ P j h. absurd (omega arith) }

pub row-indexed-none : {v : Edition} {lay : Bytes} {n t : ℕ} {rec : Bytes} {c stride : ℕ} {types values : List ℕ} → length types ≡ 0
    → IndexedRow v lay n t rec c stride types values
row-indexed-none e = record { starts = λ X j h. absurd (omega arith) }
