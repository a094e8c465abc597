-- The marks of an incoming column's places, where they stand.
use Rattle.std.specs.Prelude.{ℕ, zero, suc, ◌≡◌, Bool, false}
use Rattle.layout.specs.Bytes.{Bytes}
use Rattle.layout.specs.Tree.{ColumnType}
use Rattle.layout.specs.Layout.{deepest}
use Rattle.layout.specs.code.Stands.{TypeAt}
use Rattle.layout.specs.declared.cursor.Cursor.{Cursor}
use Rattle.layout.specs.declared.edition.Edition.{Edition}
use Rattle.plan.specs.Nullness.{Nullness, Nullnesses, nowhere, inside_of, nullness_at}
use Rattle.plan.specs.Marks.{given}
use Rattle.nullness.specs.declared.column.PartMark.{PartMark}

-- the places inside a column of this type, whatever its own mark
abbrev pub parts_of : ColumnType → Nullnesses
parts_of t = inside_of (given false t)

-- the mark of the element k: there is one place for all elements
unfoldable pub element_mark : ℕ → Cursor → Bool → PartMark
element_mark zero c r = PartMark.At c r
element_mark (suc k) c r = PartMark.None

-- n is that of a column of the mark m, whose type stands at `at`
pub record MarkedAt (v : Edition) (s : Bytes) (at : ℕ) (m : Bool) (n : Nullness) : Type 0 where
  pub type : TypeAt v deepest s at
  pub is : n ≡ given m type.tree

-- the answer r for the place n: a type that stands there is not refused
pub record PartIs (v : Edition) (s : Bytes) (n : Nullness) (r : PartMark) : Type 0 where
  pub none : r ≡ PartMark.None → n ≡ nowhere
  pub read : r ≡ PartMark.Refused → ⊥
  pub here : (c : Cursor) (m : Bool) → r ≡ PartMark.At c m → MarkedAt v s c.at m n
