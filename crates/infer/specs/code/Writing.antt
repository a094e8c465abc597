-- Types in version 1 form, as they were written into a buffer.
use Rattle.std.specs.Prelude.{ℕ, ◌+◌, ◌≤◌, ◌≡◌, Bool, true, false, leb, length as size}
use Rattle.store.specs.code.Overlay.{overlay}
use Rattle.layout.specs.Bytes.{Bytes}
use Rattle.layout.specs.Tree.{DataType, Fields, fnil, fcons, count_fields}
use Rattle.forms.specs.Form.{form, form_fields}
use Rattle.forms.specs.code.Readable.{Readable, ReadableFields}
use Rattle.forms.specs.Depth.{depth_of, depth_of_fields}
use Rattle.plan.specs.Result.{Result, gives}
use Rattle.plan.specs.Check.{Column, column, longest_type}
use Rattle.infer.specs.declared.form.Inferred.{Inferred}

-- the form of a type of at most `depth` levels stands from index k on, as long as `len`, within the limits of a result
pub record Writes (t : DataType) (depth : ℕ) (out : Bytes) (k len : ℕ) (out' : Bytes) : Type 0 where
  pub stored : out' ≡ overlay out k (form t)
  pub long : len ≡ size (form t)
  pub room : k + len ≤ size out
  pub short : len ≤ longest_type
  pub deep : depth_of t ≤ depth
  pub readable : Readable t

-- the bytes b stand from index k on
pub record Fills (b : Bytes) (out : Bytes) (k : ℕ) (out' : Bytes) : Type 0 where
  pub stored : out' ≡ overlay out k b
  pub room : k + size b ≤ size out

-- the names and forms of columns
pub record WritesFields (fs : Fields) (depth : ℕ) (out : Bytes) (k len : ℕ) (out' : Bytes) : Type 0 where
  pub stored : out' ≡ overlay out k (form_fields fs)
  pub long : len ≡ size (form_fields fs)
  pub room : k + len ≤ size out
  pub deep : depth_of_fields fs ≤ depth
  pub readable : ReadableFields fs

-- ---- answers

-- a length behind so many bytes, no longer than a result may be
unfoldable pub length_of : Bool → ℕ → Inferred
length_of true n = Inferred.Is n
length_of false n = Inferred.Unknown

abbrev pub behind_of : ℕ → Inferred → Inferred
behind_of head (Inferred.Is len) = length_of (leb (head + len) longest_type) (head + len)
behind_of head Inferred.Unknown = Inferred.Unknown

-- the type t was written
abbrev pub CopiedParts : DataType → ℕ → Bytes → ℕ → Inferred → Bytes → Type 0
CopiedParts t depth out k (Inferred.Is len) out' = Writes t depth out k len out'
CopiedParts t depth out k Inferred.Unknown out' = Unit {0}

pub record CopiedIs (t : DataType) (depth : ℕ) (out : Bytes) (k : ℕ) (q : Inferred) (out' : Bytes) : Type 0 where
  pub parts : CopiedParts t depth out k q out'

-- the bytes b of a leaf type were written
abbrev pub LeafParts : Bytes → ℕ → Bytes → ℕ → Inferred → Bytes → Type 0
LeafParts b depth out k (Inferred.Is len) out' = (len ≡ size b) × (1 ≤ depth) × (len ≤ longest_type) × Fills b out k out'
LeafParts b depth out k Inferred.Unknown out' = Unit {0}

pub record LeafCopied (b : Bytes) (depth : ℕ) (out : Bytes) (k : ℕ) (q : Inferred) (out' : Bytes) : Type 0 where
  pub parts : LeafParts b depth out k q out'

-- the result r is a column, whose type was written
pub record InferredTo (r : Result Column) (depth : ℕ) (out : Bytes) (k len : ℕ) (out' : Bytes) : Type 0 where
  pub name : Bytes
  pub type : DataType
  pub typed : r ≡ gives (column name type)
  pub writes : Writes type depth out k len out'

abbrev pub InferredParts : Result Column → ℕ → Bytes → ℕ → Inferred → Bytes → Type 0
InferredParts r depth out k (Inferred.Is len) out' = InferredTo r depth out k len out'
InferredParts r depth out k Inferred.Unknown out' = Unit {0}

pub record InferredIs (r : Result Column) (depth : ℕ) (out : Bytes) (k : ℕ) (q : Inferred) (out' : Bytes) : Type 0 where
  pub parts : InferredParts r depth out k q out'

-- the result r is a column, whose name and type were written
pub record ColumnTo (r : Result Column) (depth : ℕ) (out : Bytes) (k len : ℕ) (out' : Bytes) : Type 0 where
  pub name : Bytes
  pub type : DataType
  pub typed : r ≡ gives (column name type)
  pub writes : WritesFields (fcons name type fnil) depth out k len out'

abbrev pub ColumnParts : Result Column → ℕ → Bytes → ℕ → Inferred → Bytes → Type 0
ColumnParts r depth out k (Inferred.Is len) out' = ColumnTo r depth out k len out'
ColumnParts r depth out k Inferred.Unknown out' = Unit {0}

pub record ColumnIs (r : Result Column) (depth : ℕ) (out : Bytes) (k : ℕ) (q : Inferred) (out' : Bytes) : Type 0 where
  pub parts : ColumnParts r depth out k q out'

-- the result r is some columns, whose names and types were written
pub record FieldsTo (r : Result Fields) (count depth : ℕ) (out : Bytes) (k len : ℕ) (out' : Bytes) : Type 0 where
  pub fields : Fields
  pub typed : r ≡ gives fields
  pub counted : count_fields fields ≡ count
  pub writes : WritesFields fields depth out k len out'

abbrev pub FieldsParts : Result Fields → ℕ → ℕ → Bytes → ℕ → Inferred → Bytes → Type 0
FieldsParts r count depth out k (Inferred.Is len) out' = FieldsTo r count depth out k len out'
FieldsParts r count depth out k Inferred.Unknown out' = Unit {0}

pub record FieldsIs (r : Result Fields) (count depth : ℕ) (out : Bytes) (k : ℕ) (q : Inferred) (out' : Bytes) : Type 0 where
  pub parts : FieldsParts r count depth out k q out'
