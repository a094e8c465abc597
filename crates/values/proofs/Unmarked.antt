-- Where no column is required, reading with marks is reading without them. Assumes nothing.
use Prim.Native.Nat.{ℕ, zero, suc}
use mathlib.Core.Path.{◌≡◌, refl, ap, ◌∙◌}
use mathlib.Core.Bool.{Bool, true, false}
use Rattle.layout.specs.Bytes.{Bytes}
use Rattle.layout.specs.Parser.{Res, refuse, ok, Parser, next, choose}
use Rattle.layout.specs.code.Answers.{moved_of}
use Rattle.layout.specs.declared.cursor.Moved.{Moved}
use Rattle.layout.specs.Tree.{LeafType, Label, ColumnType, cleaf, cstruct, clist, carray, Columns, cnil, ccons, dtype_of, fields_of}
use Rattle.values.specs.Value.{Value, vnull}
use Rattle.values.specs.Reading.{presence, nullable, times, leaf_content, struct_content, list_content, array_content, content, values, value}
use Rattle.values.specs.code.Answers.{value_moved}
use Rattle.values.specs.declared.read.ValueRead.{ValueRead}
use Rattle.values.specs.code.Marks.{marks_of}
use Rattle.values.specs.Marked.{presence_marked, nullable_marked, content_marked, values_marked, value_marked}
use Rattle.values.specs.Record.{record_number, renumber, record_from, record_of, record_marked_from, record_marked}

next-same : {A B : Type 0} (x : Res A) (j k : A → ℕ → Res B) → ((a : A) (m : ℕ) → j a m ≡ k a m) → next x j ≡ next x k
unfolding next
next-same (refuse n) j k f = refl
next-same (ok a m) j k f = f a m

next_on : {A B : Type 0} {x y : Res A} (k : A → ℕ → Res B) → x ≡ y → next x k ≡ next y k
next_on k e = ap (λ (z : Res _). next z k) e

nullable-same : {r : Bool} → r ≡ false → (p q : Parser Value) (s : Bytes) → ((at : ℕ) → p s at ≡ q s at) → (at : ℕ) → nullable_marked r p s at ≡ nullable q s at
unfolding nullable_marked presence_marked nullable next choose
nullable-same e p q s h at = rw e (go (presence s at))
  where
    by : (here : Bool) (m : ℕ) → next (choose here (ok true m) (ok false m)) (λ here i. choose here (p s i) (ok vnull i)) ≡ choose here (q s m) (ok vnull m)
    by true m = h m
    by false m = refl

    go : (x : Res Bool) → next (next x (λ here m. choose here (ok true m) (ok false m))) (λ here i. choose here (p s i) (ok vnull i)) ≡ next x
        (λ here m. choose here (q s m) (ok vnull m))
    go (refuse n) = refl
    go (ok here m) = by here m

times-same : (p q : Parser Value) (s : Bytes) → ((at : ℕ) → p s at ≡ q s at) → (n at : ℕ) → times n p s at ≡ times n q s at
unfolding times
times-same p q s h zero at = refl
times-same p q s h (suc n) at = next_on _ (h at) ∙ next-same (q s at) _ _ (λ v m. next_on _ (times-same p q s h n m))

module _ (mark : Label → Bool) where
  -- no column inside is required
  mutual
    pub data Unmarked : ColumnType → Type 0 where
      bare-leaf : {l : LeafType} → Unmarked (cleaf l)
      bare_struct : {cs : Columns} → UnmarkedAll cs → Unmarked (cstruct cs)
      bare-list : {l : Label} {t : ColumnType} → mark l ≡ false → Unmarked t → Unmarked (clist l t)
      bare-array : {w : ℕ} {l : Label} {t : ColumnType} → mark l ≡ false → Unmarked t → Unmarked (carray w l t)

    pub data UnmarkedAll : Columns → Type 0 where
      bare-nil : UnmarkedAll cnil
      bare-cons : {l : Label} {t : ColumnType} {cs : Columns} → mark l ≡ false → Unmarked t → UnmarkedAll cs → UnmarkedAll (ccons l t cs)

  module _ (none : (l : Label) → mark l ≡ false) where
    mutual
      pub unmarked : (t : ColumnType) → Unmarked t
      unmarked (cleaf l) = bare-leaf
      unmarked (cstruct cs) = bare_struct (unmarked-all cs)
      unmarked (clist l t) = bare-list (none l) (unmarked t)
      unmarked (carray w l t) = bare-array (none l) (unmarked t)

      pub unmarked-all : (cs : Columns) → UnmarkedAll cs
      unmarked-all cnil = bare-nil
      unmarked-all (ccons l t cs) = bare-cons (none l) (unmarked t) (unmarked-all cs)

  module _ (s : Bytes) where
    mutual
      unfolding content_marked values_marked content values leaf_content struct_content list_content array_content dtype_of fields_of

      content-unmarked : {t : ColumnType} → Unmarked t → (at : ℕ) → content_marked mark t s at ≡ content (dtype_of t) s at
      content-unmarked bare-leaf at = refl
      content-unmarked (bare_struct U) at = next_on _ (values-unmarked U at)
      content-unmarked (bare-list e U) at =
          next-same _ _ _ (λ n m. next_on _ (times-same _ _ s (λ i. nullable-same e _ _ s (λ j. content-unmarked U j) i) n m))
      content-unmarked (bare-array {w} e U) at = next_on _ (times-same _ _ s (λ i. nullable-same e _ _ s (λ j. content-unmarked U j) i) w at)

      pub values-unmarked : {cs : Columns} → UnmarkedAll cs → (at : ℕ) → values_marked mark cs s at ≡ values (fields_of cs) s at
      values-unmarked bare-nil at = refl
      values-unmarked (bare-cons {l} {t} {cs} e U Us) at =
          next_on _ (nullable-same e _ _ s (λ j. content-unmarked U j) at) ∙ next-same _ _ _ (λ v m. next_on _ (values-unmarked Us m))

    pub value_unmarked : {r : Bool} {t : ColumnType} → r ≡ false → Unmarked t → (at : ℕ) → value_marked mark r t s at ≡ value (dtype_of t) s at
    unfolding value_marked value
    value_unmarked e U at = nullable-same e _ _ s (λ i. content-unmarked U i) at

    pub times_unmarked : {r : Bool} {t : ColumnType} → r ≡ false → Unmarked t → (n at : ℕ) → times n (value_marked mark r t) s at ≡ times n
        (value (dtype_of t)) s at
    times_unmarked {r} {t} e U n at = times-same (value_marked mark r t) (value (dtype_of t)) s (λ i. value_unmarked e U i) n at

    -- a layout without marks, as those of editions 1 and 2 are
    pub record_unmarked : {cs : Columns} → UnmarkedAll cs → record_marked mark cs s ≡ record_of (fields_of cs) s
    unfolding record_marked record_marked_from record_of record_from
    record_unmarked {cs} U = next-same _ _ _ (λ u i. next_on _ (ap (renumber record_number) (values-unmarked U i)))

-- ---- the readers' answers, where marks do not count

module _ (s : Bytes) (at : ℕ) (E : ℕ) {r : ValueRead} where
  pub bare-value : (t : ColumnType) → r ≡ value_moved E (value_marked (marks_of false) false t s at) → r ≡ value_moved E (value (dtype_of t) s at)
  bare-value t h = h ∙ ap (value_moved E) (value_unmarked (marks_of false) s refl (unmarked (marks_of false) (λ l. refl) t) at)

  pub bare-values : (cs : Columns) → r ≡ value_moved E (values_marked (marks_of false) cs s at) → r ≡ value_moved E (values (fields_of cs) s at)
  bare-values cs h = h ∙ ap (value_moved E) (values-unmarked (marks_of false) s (unmarked-all (marks_of false) (λ l. refl) cs) at)

  pub bare-elements : (n : ℕ) (t : ColumnType) → r ≡ value_moved E (times n (value_marked (marks_of false) false t) s at) → r ≡ value_moved E
      (times n (value (dtype_of t)) s at)
  bare-elements n t h = h ∙ ap (value_moved E) (times_unmarked (marks_of false) s refl (unmarked (marks_of false) (λ l. refl) t) n at)

pub bare-element : (s : Bytes) (at : ℕ) (t : ColumnType) {r : Moved} → r ≡ moved_of (value_marked (marks_of false) false t s at) → r ≡ moved_of
    (value (dtype_of t) s at)
bare-element s at t h = h ∙ ap moved_of (value_unmarked (marks_of false) s refl (unmarked (marks_of false) (λ l. refl) t) at)
