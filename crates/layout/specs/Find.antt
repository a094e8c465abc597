-- Looking a column up among its siblings: by name, by id or by position; the first that is wanted.
use Rattle.std.specs.Prelude.{ℕ, ◌+◌, Bool, eqb}
use Rattle.layout.specs.Bytes.{Bytes, same_bytes}
use Rattle.layout.specs.Parser.{choose}
use Rattle.layout.specs.Tree.{Label, ColumnType, Columns, cnil, ccons}
use Rattle.layout.specs.Layout.{type}
use Rattle.layout.specs.declared.columns.FieldId.{FieldId}
use Rattle.layout.specs.declared.columns.Position.{Position}
use Rattle.layout.specs.declared.matching.Matching.{Matching}
use Rattle.layout.specs.declared.matching.Matching.TheVariants.{ByName, ByNumber}

-- a column's position, label and type
pub data Lookup : Type 0 where
  absent : Lookup
  present : Position → Label → ColumnType → Lookup

-- the first column that f takes, by its position and its label; the first of these columns has the position i
unfoldable pub find_from : (ℕ → Label → Bool) → ℕ → Columns → Lookup
find_from f i cnil = absent
find_from f i (ccons l t cs) = choose (f i l) (present (record { 0 = i }) l t) (find_from f (i + 1) cs)

abbrev pub column_named : Bytes → Columns → Lookup
column_named name = find_from (λ i l. same_bytes l.name name) 0

abbrev pub column_of_id : FieldId → Columns → Lookup
column_of_id id = find_from (λ i l. eqb l.id.0 id.0) 0

abbrev pub column_at : Position → Columns → Lookup
column_at k = find_from (λ i l. eqb i k.0) 0

-- a label's counterpart: the column of the same name; by number, of the same id
abbrev pub counterpart : Matching → Label → Columns → Lookup
counterpart ByName l cs = column_named l.name cs
counterpart ByNumber l cs = column_of_id l.id cs
