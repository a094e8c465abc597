-- A value in the bytes of a record, or of a constant in a plan, and its type in the bytes of a layout or of the same
-- plan.
use Rattle.std.specs.Prelude.{ℕ, ◌≡◌}
use Rattle.layout.specs.Bytes.{Bytes}
use Rattle.layout.specs.Tree.{list, dtype_of, fields_of}
use Rattle.layout.specs.Layout.{deepest}
use Rattle.layout.specs.code.Stands.{TypeAt, ColumnsAt}
use Rattle.layout.specs.declared.cursor.Cursor.{Cursor}
use Rattle.layout.specs.declared.edition.Edition.{Edition}
use Rattle.values.specs.Value.{Value, vnull, vnumber, vtext, voverflow, vstruct, vlist, varray, count_values}
use Rattle.values.specs.code.Stands.{ValueAt, ContentAt, ValuesAt, EachAt}
use Rattle.plan.specs.Run.{value_at}
use Rattle.walk.specs.code.Values.{opened}
use Rattle.nodes.specs.declared.raw.NodeAt.{NodeAt}
use Rattle.nodes.specs.declared.raw.Parts.{Parts}

-- the type at t, of which a value stands at c
pub record RawAt (v : Edition) (lay : Bytes) (t : ℕ) (rec : Bytes) (c : ℕ) : Type 0 where
  pub type : TypeAt v deepest lay t
  pub value : ValueAt (dtype_of type.tree) rec c

-- n columns from t on, of which values stand from c on
pub record RowAt (v : Edition) (lay : Bytes) (n t : ℕ) (rec : Bytes) (c : ℕ) : Type 0 where
  pub columns : ColumnsAt v deepest lay n t
  pub values : ValuesAt (fields_of columns.columns) rec c

-- the type at t, of which n values stand from c on
pub record ElementsAt (v : Edition) (lay : Bytes) (n t : ℕ) (rec : Bytes) (c : ℕ) : Type 0 where
  pub type : TypeAt v deepest lay t
  pub values : EachAt (dtype_of type.tree) n rec c

-- the type at t, of which a value that is present stands at c, after its presence byte
pub record PresentAt (v : Edition) (lay : Bytes) (t : ℕ) (rec : Bytes) (c : ℕ) : Type 0 where
  pub type : TypeAt v deepest lay t
  pub content : ContentAt (dtype_of type.tree) rec c

-- the type at t, of which a list stands at c, after its presence byte
pub record ListOf (v : Edition) (lay : Bytes) (t : ℕ) (rec : Bytes) (c : ℕ) : Type 0 where
  pub type : TypeAt v deepest lay t
  pub content : ContentAt (list (dtype_of type.tree)) rec c

-- the value x stands at c
pub record NodeIs (v : Edition) (lay : Bytes) (t : ℕ) (rec : Bytes) (c : ℕ) (x : Value) : Type 0 where
  pub raw : RawAt v lay t rec c
  pub is : raw.value.tree ≡ x

-- the answer r is where x stands; null where there is no such node
pub record NodeOf (v : Edition) (lay rec : Bytes) (x : Value) (r : NodeAt) : Type 0 where
  pub none : r ≡ NodeAt.Null → x ≡ vnull
  pub here : (t c : Cursor) → r ≡ NodeAt.At t c → NodeIs v lay t.at rec c.at x

-- a value's k-th field or element
abbrev pub part_at : Value → ℕ → Value
part_at x k = opened (λ vs. value_at vs k) x

-- how many fields or elements a value has; a null and a leaf have no parts
unfoldable pub parts_of : Value → Parts
parts_of vnull = Parts.None
parts_of (vnumber k n) = Parts.None
parts_of (vtext b) = Parts.None
parts_of voverflow = Parts.None
parts_of (vstruct vs) = Parts.Some (count_values vs)
parts_of (vlist vs) = Parts.Some (count_values vs)
parts_of (varray vs) = Parts.Some (count_values vs)
