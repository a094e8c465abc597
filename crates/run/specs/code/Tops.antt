-- The top selectors of a plan one after another: src/tops.rt.
use Rattle.std.specs.Prelude.{ℕ, ◌≤◌, ◌≡◌, true, false, ◌++◌, length}
use Rattle.layout.specs.Bytes.{Bytes}
use Rattle.layout.specs.Tree.{dtype_of, fields_of}
use Rattle.layout.specs.Limits.{longest, deepest}
use Rattle.layout.specs.code.Stands.{TypeAt}
use Rattle.layout.specs.declared.columns.ColumnRange.{ColumnRange}
use Rattle.values.specs.Value.{Value, Values}
use Rattle.values.specs.Encode.{encode_value, encode_values}
use Rattle.plan.specs.Run.{clean, clean_all_of}
use Rattle.overflow.specs.code.Ranges.{RecordAt}
use Rattle.overflow.specs.code.Overflows.{TopAt}
use Rattle.output.specs.code.Output.{Emits}
use Rattle.run.specs.declared.tops.Top.{Top}
use Rattle.run.specs.declared.tops.TopWritten.{TopWritten}
use Rattle.run.specs.declared.tops.TopsWritten.{TopsWritten}

-- over a record, a top selector that passed the check, and its column's type in the target
pub record TopIn (lay : Bytes) (columns : ColumnRange) (rec plan tgt : Bytes) (top : Top) : Type 0 where
  pub row : RecordAt lay columns rec
  pub selector : TopAt plan top.selector.at (fields_of row.columns.columns)
  pub type : TypeAt top.column.edition top.column.depth tgt top.column.at.at
  pub is : selector.column.type ≡ dtype_of type.tree
  pub deep : top.column.depth ≤ deepest
  pub short : length rec ≤ longest

-- whatever is written in out and has the length len, the bytes b follow it in out', and the length is r
pub record Follows (out : Bytes) (len : ℕ) (b : Bytes) (r : ℕ) (out' : Bytes) : Type 0 where
  pub emits : (out₀ a : Bytes) → length out ≡ length out₀ → Emits out₀ 0 a len out → Emits out₀ 0 (a ++ b) r out'

-- of a selector that ends at e and gives x
abbrev pub TopAnswer : Value → ℕ → Bytes → ℕ → TopWritten → Bytes → Type 0
TopAnswer x e out len (TopWritten.To c r) out' = (c.at ≡ e) × (clean x ≡ true) × Follows out len (encode_value x) r out'
TopAnswer x e out len TopWritten.Overflows out' = clean x ≡ false

pub record TopIs (x : Value) (e : ℕ) (out : Bytes) (len : ℕ) (r : TopWritten) (out' : Bytes) : Type 0 where
  pub answer : TopAnswer x e out len r out'

-- of selectors that give xs
abbrev pub TopsAnswer : Values → Bytes → TopsWritten → Bytes → Type 0
TopsAnswer xs out (TopsWritten.To len) out' = (clean_all_of xs ≡ true) × Emits out 0 (encode_values xs) len out'
TopsAnswer xs out TopsWritten.Overflows out' = clean_all_of xs ≡ false

pub record TopsAre (xs : Values) (out : Bytes) (r : TopsWritten) (out' : Bytes) : Type 0 where
  pub answer : TopsAnswer xs out r out'
