-- The column at a position, among columns that stand in bytes. Assumes nothing.
use Prim.Native.Nat.{ℕ, zero, suc, ◌+◌, ◌≤◌, ◌<◌}
use mathlib.Core.Path.{◌≡◌, refl, sym, ap, ◌∙◌, subst}
use mathlib.Core.Bool.{Bool}
use native.Mathlib.Omega.{arith}
use lib.Dec.{eqb}
use borrow.Author.Tests.{eq-eqb, ne_eqb}
use Rattle.layout.specs.Bytes.{Bytes}
use Rattle.layout.specs.Parser.{choose}
use Rattle.layout.specs.Tree.{Label, ColumnType, Columns, cnil, ccons, Fields, fnil, fcons, dtype_of, fields_of, count_fields}
use Rattle.layout.specs.code.Stands.{TypeAt, ColumnsAt}
use Rattle.layout.specs.code.Answers.{span_at, SpanIn}
use Rattle.layout.specs.Find.{Lookup, present, find_from, column_at as lookupAt}
use Rattle.layout.specs.code.Finding.{FoundAt, Finds}
use Rattle.layout.specs.declared.columns.Position.{Position}
use Rattle.layout.specs.declared.columns.Label.{Label as LabelSpan}
use Rattle.layout.specs.declared.cursor.Cursor.{Cursor}
use Rattle.layout.specs.declared.find.Found.{Found}
use Rattle.layout.specs.declared.edition.Edition.{Edition}
use Rattle.layout.proofs.Ways.{clash}
use Rattle.plan.specs.Result.{gives, refuses}
use Rattle.plan.specs.Check.{Column, column_at}
use Rattle.plan.proofs.Results.{never_refused, gives_eq}

-- ---- a position is there just when it is below the count

pub column-there : (fs : Fields) (k : ℕ) → k < count_fields fs → (c : Column) × (column_at fs k ≡ gives c)
unfolding column_at count_fields
column-there fnil k h = absurd (omega arith)
column-there (fcons n t fs) zero h = (_, refl)
column-there (fcons n t fs) (suc k) h = column-there fs k (omega arith)

pub column-past : (fs : Fields) (k : ℕ) → count_fields fs ≤ k → column_at fs k ≡ refuses 31
unfolding column_at count_fields
column-past fnil k h = refl
column-past (fcons n t fs) zero h = absurd (omega arith)
column-past (fcons n t fs) (suc k) h = column-past fs k (omega arith)

-- ---- the lookup by position

record LookedUp (f : ℕ → Label → Bool) (i : ℕ) (cs : Columns) (k : Position) (c : Column) : Type 0 where
  label : Label
  type : ColumnType
  is : find_from f i cs ≡ present k label type
  name : label.name ≡ c.name
  typed : dtype_of type ≡ c.type

looked_up : (k : Position) (cs : Columns) (i j : ℕ) {c : Column} → i + j ≡ k.0 → column_at (fields_of cs) j ≡ gives c → LookedUp (λ i l. eqb i k.0) i cs k c
unfolding find_from column_at fields_of choose
looked_up k cnil i j e h = never_refused h refl
looked_up k (ccons l t cs) i zero {c} e h =
    let q : i ≡ k.0 = omega arith in
    let g = gives_eq h in
    record {
      label = l;
      type = t;
      is = rw (eq-eqb i k.0 q) (ap (λ (n : ℕ). present (record { 0 = n }) l t) q);
      name = ap (λ (x : Column). x.name) g;
      typed = ap (λ (x : Column). x.type) g;
    }
looked_up k (ccons l t cs) i (suc j) {c} e h =
    let R = looked_up k cs (i + 1) j (omega arith) h in
    record { label = R.label; type = R.type; is = rw (ne_eqb i k.0 (λ q. omega arith)) R.is; name = R.name; typed = R.typed }

pub record FieldFound (v : Edition) (d : ℕ) (s : Bytes) (c : Column) (r : Found) : Type 0 where
  pub position : Position
  pub label : LabelSpan
  pub start : Cursor
  pub is : r ≡ Found.At position label start
  pub type : TypeAt v d s start.at
  pub typed : dtype_of type.tree ≡ c.type
  pub inside : SpanIn s label.name
  pub name : span_at s label.name ≡ c.name

pub field_found : {v : Edition} {d : ℕ} {s : Bytes} {n from : ℕ} (C : ColumnsAt v d s n from) (k : Position) {c : Column} {r : Found} → column_at
    (fields_of C.columns) k.0 ≡ gives c
    → Finds v d s (lookupAt k C.columns) r → FieldFound v d s c r
field_found {v} {d} {s} C k {c} {r} h F =
    let L = looked_up k C.columns 0 k.0 (omega arith) h in
    go L (subst (λ (x : Lookup). Finds v d s x r) L.is F)
  where
    go : (L : LookedUp (λ i l. eqb i k.0) 0 C.columns k c) → FoundAt v d s k L.label L.type r → FieldFound v d s c r
    go L A = record {
      position = k;
      label = A.span;
      start = A.start;
      is = A.is;
      type = record { tree = L.type; end = A.end; reads = A.reads };
      typed = L.typed;
      inside = A.inside;
      name = ap (λ (l : Label). l.name) A.label ∙ L.name;
    }

-- where the answer says
pub record FieldHere (v : Edition) (d : ℕ) (s : Bytes) (c : Column) (l : LabelSpan) (e : ℕ) : Type 0 where
  pub type : TypeAt v d s e
  pub typed : dtype_of type.tree ≡ c.type
  pub inside : SpanIn s l.name
  pub name : span_at s l.name ≡ c.name

module _ {v : Edition} {d : ℕ} {s : Bytes} {c : Column} {r : Found} (F : FieldFound v d s c r) where
  pub field-here : {p : Position} {l : LabelSpan} {e : Cursor} → r ≡ Found.At p l e → FieldHere v d s c l e.at
  field-here {p} {l} {e} q =
      let z : Found.At F.position F.label F.start ≡ Found.At p l e = sym F.is ∙ q in
      let a : F.label ≡ l = cc in
      let b : F.start ≡ e = cc in
      subst (λ (m : LabelSpan). FieldHere v d s c m e.at) a
      (subst (λ (m : Cursor). FieldHere v d s c F.label m.at) b (record { type = F.type; typed = F.typed; inside = F.inside; name = F.name }))

  pub field_never : {X : Type 0} → r ≡ Found.Absent → X
  field_never q = let z : Found.At F.position F.label F.start ≡ Found.Absent = sym F.is ∙ q in clash (cc)
