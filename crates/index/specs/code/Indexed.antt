-- Where every stride-th column of a row stands, in a layout and in a record: what index tables hold.
use Rattle.std.specs.Prelude.{ℕ, zero, suc, ◌+◌, ◌-◌, ◌*◌, ◌/◌, ◌≤◌, ◌<◌, ◌≡◌, List, length, get_or}
use Rattle.layout.specs.Bytes.{Bytes}
use Rattle.layout.specs.Tree.{Columns, cnil, ccons}
use Rattle.layout.specs.Layout.{deepest}
use Rattle.layout.specs.code.Stands.{ColumnsAt}
use Rattle.layout.specs.Find.{Lookup, absent, present}
use Rattle.layout.specs.declared.columns.Position.{Position}
use Rattle.layout.specs.declared.edition.Edition.{Edition}
use Rattle.values.specs.Value.{Values, vnil, vcons}
use Rattle.nodes.specs.code.Raw.{RowAt}
use Rattle.index.specs.declared.row.Row.{Row}

-- a table of 256 entries holds every stride-th of n columns
abbrev pub stride_of : ℕ → ℕ
stride_of n = n / 256 + 1

-- the columns after the first i
unfoldable pub drop_columns : ℕ → Columns → Columns
drop_columns zero cs = cs
drop_columns (suc i) cnil = cnil
drop_columns (suc i) (ccons l t cs) = drop_columns i cs

-- the first of some columns, whose position is k
unfoldable pub first_as : Position → Columns → Lookup
first_as k cnil = absent
first_as k (ccons l t cs) = present k l t

-- the values after the first i
unfoldable pub drop_values : ℕ → Values → Values
drop_values zero vs = vs
drop_values (suc i) vnil = vnil
drop_values (suc i) (vcons v vs) = drop_values i vs

-- column i stands at m, and those after it follow
pub record StartsAt (v : Edition) (s : Bytes) (n at : ℕ) (P : ColumnsAt v deepest s n at) (i m : ℕ) : Type 0 where
  pub within : i ≤ n
  pub rest : ColumnsAt v deepest s (n - i) m
  pub is : rest.columns ≡ drop_columns i P.columns

-- column k is the one after `left` others from m on
pub record StartsBefore (v : Edition) (s : Bytes) (n at : ℕ) (P : ColumnsAt v deepest s n at) (k m left : ℕ) : Type 0 where
  pub from : ℕ
  pub counted : k ≡ from + left
  pub starts : StartsAt v s n at P from m

-- entry j is where column j * stride stands
pub record Indexed (v : Edition) (s : Bytes) (n at stride : ℕ) (index : List ℕ) : Type 0 where
  pub starts : (P : ColumnsAt v deepest s n at) (j : ℕ) → j < length index → StartsAt v s n at P (j * stride) (get_or index j 0)

-- column i stands at m, and its value at o
pub record RowStarts (v : Edition) (lay : Bytes) (n t : ℕ) (rec : Bytes) (c : ℕ) (X : RowAt v lay n t rec c) (i m o : ℕ) : Type 0 where
  pub within : i ≤ n
  pub rest : RowAt v lay (n - i) m rec o
  pub is : rest.values.values ≡ drop_values i X.values.values
  pub columns : rest.columns.columns ≡ drop_columns i X.columns.columns

-- entry j of the two tables is where column j * stride and its value stand
pub record IndexedRow (v : Edition) (lay : Bytes) (n t : ℕ) (rec : Bytes) (c stride : ℕ) (types values : List ℕ) : Type 0 where
  pub starts : (X : RowAt v lay n t rec c) (j : ℕ) → j < length types → (j < length values) × RowStarts v lay n t rec c X (j * stride) (get_or types j 0)
      (get_or values j 0)

-- ---- src/row.rt

-- the row stands in a layout and a record
abbrev pub RowIn : Bytes → Bytes → Row → Type 0
RowIn lay rec row = RowAt row.columns.edition lay row.columns.count row.columns.first.at rec row.values.at

abbrev pub IndexedIn : Bytes → Bytes → Row → List ℕ → List ℕ → Type 0
IndexedIn lay rec row types values =
    IndexedRow row.columns.edition lay row.columns.count row.columns.first.at rec row.values.at row.stride types values
