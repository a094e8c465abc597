-- Reading a number whose type is a code alone. Assumes nothing.
use Prim.Native.Nat.{ℕ}
use mathlib.Core.Path.{◌≡◌, refl, sym, ap, ◌∙◌}
use mathlib.Core.Bool.{Bool}
use mathlib.Core.List.{[]}
use Rattle.layout.specs.Bytes.{Bytes}
use Rattle.layout.specs.Parser.{Res, next, byte, chunk}
use Rattle.layout.specs.Tree.{Label, ColumnType}
use Rattle.layout.specs.Layout.{plain_leaf}
use Rattle.layout.specs.code.Answers.{step_res, moved_of}
use Rattle.layout.specs.code.Stands.{TypeAt}
use Rattle.layout.specs.declared.cursor.Cursor.{Cursor}
use Rattle.layout.specs.declared.cursor.Moved.{Moved}
use Rattle.layout.specs.declared.cursor.Step.{Step}
use Rattle.layout.specs.declared.leaf.Leaf.{Leaf}
use Rattle.layout.specs.declared.types.PlainLeaf.{PlainLeaf}
use Rattle.layout.specs.declared.edition.Edition.{Edition}
use Rattle.layout.proofs.Ways.{clash, moved_to, moved_refused}
use Rattle.layout.proofs.View.{plain_at}
use Rattle.values.specs.Content.{content_of}
use Rattle.values.specs.code.Numbers.{number_in, number_by_of, number_bytes}
use Rattle.values.specs.Reading.{content_by, leaf_content}
use Rattle.values.specs.Marked.{content_marked}
use Rattle.values.specs.code.Answers.{value_moved, NumberIs}
use Rattle.values.specs.declared.content.Content.{Content}
use Rattle.values.specs.declared.content.Content.TheVariants.{Nothing, Flag, Number, Decimal, Text}
use Rattle.values.specs.declared.marked.NumberRead.{NumberRead}
use Rattle.values.specs.declared.read.ValueRead.{ValueRead}
use Rattle.values.proofs.Walk.{leaf_content_lem}

number_in_lem : (x : Content) → (number_in x ≡ 0 → ⊥) → x ≡ Number (number_in x)
number_in_lem Nothing z = absurd (z refl)
number_in_lem Flag z = absurd (z refl)
number_in_lem (Number w) z = refl
number_in_lem (Decimal p) z = absurd (z refl)
number_in_lem Text z = absurd (z refl)

number_by : (x : PlainLeaf) → (number_by_of x ≡ 0 → ⊥) → (k : Leaf) × (x ≡ PlainLeaf.Known k) × (content_of k ≡ Number (number_by_of x))
number_by (PlainLeaf.Known k) z = (k, refl, number_in_lem (content_of k) z)
number_by PlainLeaf.Unknown z = absurd (z refl)

module _ (mark : Label → Bool) {v : Edition} {d : ℕ} {s : Bytes} {at : ℕ} (P : TypeAt v d s at) (rec : Bytes) (c : ℕ) {p : Step}
    (e : step_res p ≡ byte s at) {code : ℕ} {b : Cursor}
    (f : p ≡ Step.Byte code b) {w : ℕ} (g : w ≡ number_bytes code) (z : w ≡ 0 → ⊥) {q : Moved} (h : q ≡ moved_of (chunk w rec c)) where
  number : (k : Leaf) × (plain_leaf code ≡ PlainLeaf.Known k) × (content_of k ≡ Number (number_bytes code))
  number = number_by (plain_leaf code) (λ y. z (g ∙ y))

  is_number_lem : content_marked mark P.tree rec c ≡ content_by (Number w) number.0 rec c
  unfolding leaf_content
  is_number_lem =
      ap (λ (t : ColumnType). content_marked mark t rec c) (plain_at P e f number.1).0 ∙ leaf_content_lem mark number.0 [] rec c
      ∙ ap (λ (x : Content). content_by x number.0 rec c) (number.2 ∙ ap Number (sym g))

  pub number-to : {m : Cursor} → q ≡ Moved.To m → ValueRead.To b m ≡ value_moved P.end (content_marked mark P.tree rec c)
  unfolding content_by next value_moved
  number-to {m} x =
      rw (is_number_lem, (moved_to (chunk w rec c) h x).1) (ap (λ (o : ℕ). ValueRead.To (record { at = o }) m) (plain_at P e f number.1).1)

  pub number-none : {k : ℕ} → q ≡ Moved.Refused k → ValueRead.Refused k ≡ value_moved P.end (content_marked mark P.tree rec c)
  unfolding content_by next value_moved
  number-none x = rw (is_number_lem, moved_refused (chunk w rec c) h x)

-- the answer that was found
pub number_read : {A : Type 0} (e : ℕ) (x : Res A) (q : NumberRead) {r : ValueRead} → NumberIs e x q → q ≡ NumberRead.Is r → r ≡ value_moved e x
number_read e x (NumberRead.Is y) h f = cc
number_read e x NumberRead.Other h f = clash (cc)
