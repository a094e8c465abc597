-- Where the type of a part stands, and that of the place at the end of a path. Assumes nothing.
use Prim.Native.Nat.{ℕ, ◌+◌, ◌≤◌, ◌<◌}
use mathlib.Core.Path.{◌≡◌, sym, ap, ◌∙◌, subst}
use mathlib.Core.Bool.{false}
use mathlib.Core.List.{List, []}
use native.Mathlib.Omega.{arith}
use lib.ListN.{length, get_or}
use lib.Seq.{slice}
use Rattle.layout.specs.Bytes.{Bytes}
use Rattle.layout.specs.Layout.{label as label_of, element_label, columns, type, deepest, kind}
use Rattle.layout.specs.code.Answers.{head_res, label_res, moved_of}
use Rattle.layout.specs.declared.columns.Label.{Label as LabelSpan}
use Rattle.layout.specs.declared.columns.Labelled.{Labelled}
use Rattle.layout.specs.declared.columns.Siblings.TheVariants.{Free}
use Rattle.layout.specs.declared.cursor.Cursor.{Cursor}
use Rattle.layout.specs.declared.cursor.Moved.{Moved}
use Rattle.layout.specs.declared.edition.Edition.TheVariants.{One}
use Rattle.layout.specs.declared.types.Head.{Head}
use Rattle.layout.proofs.Ways.{clash, moved_to}
use Rattle.layout.proofs.View.{label_got}
use Rattle.overflow.specs.code.Some.{some_sought}
use Rattle.overflow.specs.code.Seek.{RawIn}
use Rattle.overflow.specs.declared.scan.Sought.{Sought}
use Rattle.overflow.proofs.Scanning.{path-end, path_cons}
use Rattle.nullness.specs.code.Nulls.{FieldStart, ElementStart, PartStart, p_field, p_list, p_array, Inside, i_here, i_part, IsNull, KnownAt, Nulls}
use Rattle.nullness.specs.declared.nulls.TypePart.{TypePart}

-- ---- a part

pub at_field : {s : Bytes} {at k : ℕ} {m : Moved} {d : Cursor} {q : Labelled} {l : LabelSpan} {b : Cursor}
    → m ≡ moved_of (columns One Free (type One Free deepest) k [] s at) → m ≡ Moved.To d → label_res s q ≡ label_of One s d.at → q ≡ Labelled.Is l b
    → (e : Cursor) → TypePart.At b ≡ TypePart.At e → FieldStart s at k e.at
at_field {s} {at} {k} {d = d} {b = b} f g h j e z =
    let (cs, p) = moved_to (columns One Free (type One Free deepest) k [] s at) f g in
    let y : b ≡ e = cc in
    subst (λ (c : Cursor). FieldStart s at k c.at) y (record { before = cs; start = d.at; label = _; passed = p; labelled = label_got s h j })

pub at-element : {s : Bytes} {at : ℕ} {q : Labelled} {l : LabelSpan} {b : Cursor} → label_res s q ≡ element_label One s at → q ≡ Labelled.Is l b
    → (e : Cursor) → TypePart.At b ≡ TypePart.At e → ElementStart s at e.at
at-element {s} {at} {b = b} h j e z =
    let y : b ≡ e = cc in
    subst (λ (c : Cursor). ElementStart s at c.at) y (record { label = _; labelled = label_got s h j })

pub no_part : {B : Type 0} (e : Cursor) → TypePart.None ≡ TypePart.At e → B
no_part e z = clash (cc)

module _ {s : Bytes} {at k : ℕ} {p : Head} (h : head_res s p ≡ kind s at) {d e : Cursor} where
  pub part_field : {n : ℕ} → p ≡ Head.Struct n d → k < n → FieldStart s d.at k e.at → PartStart s at k e.at
  part_field f lt F = p_field (sym h ∙ ap (head_res s) f) lt F

  pub part-list : p ≡ Head.List d → ElementStart s d.at e.at → PartStart s at k e.at
  part-list f F = p_list (sym h ∙ ap (head_res s) f) F

  pub part-array : {w : ℕ} → p ≡ Head.Array w d → ElementStart s d.at e.at → PartStart s at k e.at
  part-array f F = p_array (sym h ∙ ap (head_res s) f) F

-- ---- the loop: after the numbers before i

pub record Looking (s : Bytes) (t : ℕ) (path : List ℕ) (from len at i : ℕ) : Type 0 where
  pub within : i ≤ len
  pub inside : (o : ℕ) → Inside s at (slice i len path) o → Inside s t (slice from len path) o

pub looking_start : {s : Bytes} {t : ℕ} {path : List ℕ} {from len : ℕ} → from ≤ len → Looking s t path from len t from
looking_start h = record { within = h; inside = λ o I. I }

module _ {s : Bytes} {t : ℕ} {path : List ℕ} {from len at i : ℕ} (L : Looking s t path from len at i) where
  pub looking_more : i < len → len ≤ length path → {r : TypePart} {e : Cursor} → ((b : Cursor) → r ≡ TypePart.At b → PartStart s at (get_or path i 0)
      b.at) → r ≡ TypePart.At e
      → Looking s t path from len e.at (i + 1)
  looking_more lt l {e = e} h q = record {
    within = omega (arith, lt);
    inside = λ o I. L.inside o (subst (λ (p : List ℕ). Inside s at p o) (sym (path_cons i len path lt l)) (i_part (h e q) I));
  }

  looking-end : len ≤ i → Inside s t (slice from len path) at
  looking-end h = L.inside at (subst (λ (p : List ℕ). Inside s at p at) (sym (path-end i len path (let w = L.within in omega arith))) i_here)

  pub looking_clean : {nulls : List ℕ} → Nulls s nulls → KnownAt nulls t → len ≤ i → (IsNull nulls at → ⊥) → (X : RawIn s t)
      → some_sought Sought.Null (slice from len path) X.value.tree ≡ false
  looking_clean N e h u X = (N.holds t e X).clean (slice from len path) at (looking-end h) u
