-- A path into a type: what is answered on each way to a part of it, and the loop. Assumes nothing.
use Prim.Native.Nat.{ℕ, zero, suc, ◌+◌, ◌≤◌, ◌<◌}
use mathlib.Core.Path.{◌≡◌, refl, sym, ap, ◌∙◌, subst}
use mathlib.Core.List.{List, [], ◌∷◌}
use mathlib.Core.Bool.{false}
use native.Mathlib.Omega.{arith}
use lib.ListN.{length, get_or}
use lib.Seq.{slice}
use lib.Dec.{eqb}
use borrow.Author.Tests.{eq-eqb, ne_eqb}
use Rattle.layout.specs.Bytes.{Bytes}
use Rattle.layout.specs.Parser.{choose}
use Rattle.layout.specs.Tree.{Label, DataType, leaf, struct, list, array, Fields, ColumnType, Columns, cnil, ccons, dtype_of, fields_of}
use Rattle.layout.specs.Layout.{type as type_of, deepest}
use Rattle.layout.specs.code.Parts.{PartsIs}
use Rattle.layout.specs.code.Stands.{TypeAt, ColumnsAt}
use Rattle.layout.specs.Find.{Lookup, present, find_from, column_at as lookupAt}
use Rattle.layout.specs.code.Finding.{FoundAt, Finds}
use Rattle.layout.specs.declared.columns.Position.{Position}
use Rattle.layout.specs.declared.columns.Siblings.TheVariants.{Free}
use Rattle.layout.specs.declared.columns.Label.{Label as LabelSpan}
use Rattle.layout.specs.declared.cursor.Cursor.{Cursor}
use Rattle.layout.specs.declared.find.Found.{Found}
use Rattle.layout.specs.declared.parts.TypeParts.{TypeParts}
use Rattle.layout.specs.declared.types.LeafType.{LeafType as LeafSpan}
use Rattle.layout.specs.declared.edition.Edition.{Edition}
use Rattle.layout.proofs.Ways.{clash}
use Rattle.layout.proofs.View.{leaf-opened, struct-opened, list-opened, array-opened}
use Rattle.plan.specs.Result.{gives}
use Rattle.plan.specs.Check.{Column, column_at}
use Rattle.walk.specs.code.Types.{Along, a_here, a_field, a_list_lem, a_array}
use Rattle.nodes.specs.code.Typed.{LeadsAt, TypeIs}
use Rattle.nodes.proofs.Deeper.{deeper-type}
use Rattle.nodes.proofs.Path.{path-next, path-end}

-- ---- a path by the type that it starts from

along-leaf : {B : Type 0} {t u : DataType} {k : ℕ} {p : List ℕ} {l : _} → t ≡ leaf l → Along t (k ∷ p) u → B
along-leaf e (a_field q a) = clash (cc)
along-leaf e (a_list_lem a) = clash (cc)
along-leaf e (a_array a) = clash (cc)

along-field : {t u : DataType} {k : ℕ} {p : List ℕ} {fs : Fields} → t ≡ struct fs → Along t (k ∷ p) u → (c : Column) × (column_at fs k ≡ gives c) × Along
    c.type p u
along-field {k = k} {fs = fs} e (a_field {fs = gs} {c = c} q a) =
    let z : fs ≡ gs = cc in
    (c, ap (λ (hs : Fields). column_at hs k) z ∙ q, a)
along-field e (a_list_lem a) = clash (cc)
along-field e (a_array a) = clash (cc)

along-list : {t u w : DataType} {k : ℕ} {p : List ℕ} → t ≡ list w → Along t (k ∷ p) u → Along w p u
along-list e (a_field q a) = clash (cc)
along-list {u = u} {w = w} {p = p} e (a_list_lem {t = x} a) = let z : x ≡ w = cc in subst (λ (y : DataType). Along y p u) z a
along-list e (a_array a) = clash (cc)

along-array : {t u w : DataType} {k n : ℕ} {p : List ℕ} → t ≡ array n w → Along t (k ∷ p) u → Along w p u
along-array e (a_field q a) = clash (cc)
along-array e (a_list_lem a) = clash (cc)
along-array {u = u} {w = w} {p = p} e (a_array {t = x} a) = let z : x ≡ w = cc in subst (λ (y : DataType). Along y p u) z a

along-none : {t u : DataType} → Along t [] u → t ≡ u
along-none a_here = refl

-- ---- the k-th column

-- the column that a position takes is found by its number
record Placed (m i : ℕ) (cs : Columns) (c : Column) : Type 0 where
  pub label : Label
  pub type : ColumnType
  pub found : find_from (λ i l. eqb i m) i cs ≡ present (record { 0 = m }) label type
  pub is : dtype_of type ≡ c.type

placed : (k m i : ℕ) (cs : Columns) {c : Column} → m ≡ i + k → column_at (fields_of cs) k ≡ gives c → Placed m i cs c
unfolding column_at fields_of find_from choose
placed k m i cnil h e = clash (cc)
placed zero m i (ccons l t cs) {c} h e =
    let z : i ≡ m = omega arith in
    record { label = l; type = t; found = rw (eq-eqb i m z) (ap (λ (j : ℕ). present (record { 0 = j }) l t) z); is = cc }
placed (suc k) m i (ccons l t cs) h e =
    let P = placed k m (i + 1) cs (omega arith) e in
    let z : eqb i m ≡ false = ne_eqb i m (λ q. omega arith) in
    record { label = P.label; type = P.type; found = rw z P.found; is = P.is }

record FieldAt (v : Edition) (s : Bytes) (r : Found) (t : DataType) : Type 0 where
  pub position : Position
  pub span : LabelSpan
  pub start : Cursor
  pub found : r ≡ Found.At position span start
  pub type : TypeAt v deepest s start.at
  pub is : dtype_of type.tree ≡ t

-- the field that a path takes
record Taken (v : Edition) (s : Bytes) (r : Found) (p : List ℕ) (u : DataType) : Type 0 where
  pub type : DataType
  pub field : FieldAt v s r type
  pub along : Along type p u

found_at : {v : Edition} {s : Bytes} {r : Found} (k : Position) (l : Label) (t : ColumnType) → FoundAt v 15 s k l t r → FieldAt v s r (dtype_of t)
unfolding deeper-type
found_at {v} {s} {r} k l t F = record {
  position = k;
  span = F.span;
  start = F.start;
  found = F.is;
  type = deeper-type (omega arith) (record { tree = t; end = F.end; reads = F.reads });
  is = refl;
}

module _ (v : Edition) (s : Bytes) (c k : ℕ) (p : List ℕ) (u : DataType) (L : LeadsAt v s c (k ∷ p) u) {h : TypeParts} (R : PartsIs v s c h) where
  pub leads-leaf : {B : Type 0} {l : LeafSpan} {d : Cursor} → h ≡ TypeParts.Leaf l d → B
  unfolding dtype_of
  leads-leaf f = along-leaf (ap dtype_of (leaf-opened R L.type f).0) L.along

  module _ {n : ℕ} {d : Cursor} (f : h ≡ TypeParts.Struct n d) {r : Found} (g : (Q : ColumnsAt v 15 s n d.at) → Finds v 15 s
      (lookupAt (record { 0 = k }) Q.columns) r) where
    taken : Taken v s r p u
    unfolding dtype_of
    taken =
        let S = struct-opened R L.type f in
        let (c, q, a) = along-field (ap dtype_of S.is) L.along in
        let P = placed k k 0 S.inner.columns (omega arith) q in
        let F : FoundAt v 15 s (record { 0 = k }) P.label P.type r = subst (λ (x : Lookup). Finds v 15 s x r) P.found (g S.inner) in
        record { type = dtype_of P.type; field = found_at _ _ P.type F; along = subst (λ (t : DataType). Along t p u) (sym P.is) a }

    pub leads-field : {o : Position} {l : LabelSpan} {b : Cursor} → r ≡ Found.At o l b → LeadsAt v s b.at p u
    leads-field {o} {l} {b} q =
        let T = taken in
        let F = T.field in
        let z : Found.At F.position F.span F.start ≡ Found.At o l b = sym F.found ∙ q in
        let y : F.start.at ≡ b.at = cc in
        record {
          type = record { tree = F.type.tree; end = F.type.end; reads = ap (λ (i : ℕ). type_of v Free deepest s i) (sym y) ∙ F.type.reads };
          along = subst (λ (t : DataType). Along t p u) (sym F.is) T.along;
        }

    pub leads-absent : {B : Type 0} → r ≡ Found.Absent → B
    leads-absent q =
        let F = taken.field in
        let z : Found.At F.position F.span F.start ≡ Found.Absent = sym F.found ∙ q in
        clash (cc)

  pub leads-list : {l : LabelSpan} {d : Cursor} → h ≡ TypeParts.List l d → LeadsAt v s d.at p u
  unfolding dtype_of deeper-type
  leads-list f =
      let I = list-opened R L.type f in
      record { type = deeper-type (omega arith) I.inner; along = along-list (ap dtype_of I.is) L.along }

  pub leads-array : {w : ℕ} {l : LabelSpan} {d : Cursor} → h ≡ TypeParts.Array w l d → LeadsAt v s d.at p u
  unfolding dtype_of deeper-type
  leads-array f =
      let I = array-opened R L.type f in
      record { type = deeper-type (omega arith) I.inner; along = along-array (ap dtype_of I.is) L.along }

-- ---- the loop: after the numbers before i

pub record Leading (v : Edition) (s : Bytes) (c : ℕ) (path : List ℕ) (from len o i : ℕ) : Type 0 where
  pub within : i ≤ len
  pub leads : (u : DataType) → LeadsAt v s c (slice from len path) u → LeadsAt v s o (slice i len path) u

pub leading_start : {v : Edition} {s : Bytes} {c : ℕ} {path : List ℕ} {from len : ℕ} → from ≤ len → Leading v s c path from len c from
leading_start h = record { within = h; leads = λ u L. L }

module _ {v : Edition} {s : Bytes} {c : ℕ} {path : List ℕ} {from len o i : ℕ} (a : Leading v s c path from len o i) where
  pub leading_end : len ≤ i → (u : DataType) → LeadsAt v s c (slice from len path) u → TypeIs v s o u
  leading_end h u L =
      let M = a.leads u L in
      record { type = M.type; is = along-none (subst (λ (p : List ℕ). Along (dtype_of M.type.tree) p u) (path-end path i len a.within h) M.along) }

  pub leading_more : i < len → len ≤ length path → {e : Cursor} → ((p : List ℕ) (u : DataType) → LeadsAt v s o (get_or path i 0 ∷ p) u → LeadsAt v s e.at p u)
      → Leading v s c path from len e.at (i + 1)
  leading_more lt l h = record {
    within = omega arith;
    leads = λ u L.
        let M = a.leads u L in
        h (slice (i + 1) len path) u (record {
          type = M.type;
          along = subst (λ (p : List ℕ). Along (dtype_of M.type.tree) p u)
              (path-next path i len lt l) M.along;
        });
  }
