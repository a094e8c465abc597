-- A record is read with marks just where it is read without them, to the same values, and has no null in a required
-- column; where no column is required, reading with marks is reading without. Assumes nothing.
use Prim.Native.Nat.{ℕ, zero, suc}
use mathlib.Core.Path.{◌≡◌, refl, sym, ap, ◌∙◌}
use mathlib.Core.Bool.{Bool, true, false}
use Rattle.layout.specs.Bytes.{Bytes}
use Rattle.layout.specs.Parser.{Res, refuse, ok, Parser, next, choose}
use Rattle.layout.specs.Tree.{LeafType, leaf_of, Label, ColumnType, cleaf, cstruct, clist, carray, Columns, cnil, ccons, dtype_of, fields_of}
use Rattle.layout.specs.declared.leaf.Leaf.{Leaf}
use Rattle.layout.proofs.Ways.{clash}
use Rattle.layout.proofs.View.{next-ok}
use Rattle.values.specs.Value.{Value, vnull, vstruct, vlist, varray, Values, vnil, vcons}
use Rattle.values.specs.Content.{content_of}
use Rattle.values.specs.Reading.{presence, nullable, times, content_by, leaf_content, struct_content, list_content, array_content, content, values, value}
use Rattle.values.specs.Marked.{presence_marked, nullable_marked, content_marked, values_marked, value_marked}
use Rattle.values.specs.Filled.{Filled, full-null, full-number, full-text, full-struct, full-list, full-array, FilledAll, full-nil, full-cons, FilledEach}
use Rattle.values.specs.Filled.{full-none, full-more}
use Rattle.values.specs.Record.{record_number, renumber, record_from, record_of, record_marked_from, record_marked}
use Rattle.values.specs.declared.content.Content.{Content}
use Rattle.values.specs.declared.content.Content.TheVariants.{Nothing, Flag, Number, Decimal, Text}

-- x is y but for what is not P, which it refuses with 56
pub record Kept {A : Type 0} (P : A → Type 0) (x y : Res A) : Type 0 where
  pub forth : (a : A) (m : ℕ) → x ≡ ok a m → (y ≡ ok a m) × P a
  pub back : (a : A) (m : ℕ) → y ≡ ok a m → P a → x ≡ ok a m
  pub only : (n : ℕ) (a : A) (m : ℕ) → x ≡ refuse n → y ≡ ok a m → n ≡ 56

ok_same : {A : Type 0} (P : A → Type 0) {a b : A} {m n : ℕ} → ok a m ≡ ok b n → P a → P b
ok_same P {a} {b} e p = let q : a ≡ b = cc in rw (← q) p

ok_back : {A : Type 0} (P : A → Type 0) {a b : A} {m n : ℕ} → ok a m ≡ ok b n → P b → P a
ok_back P {a} {b} e p = let q : a ≡ b = cc in rw q p

pure-kept : {A : Type 0} (P : A → Type 0) (a : A) (m : ℕ) → P a → Kept P (ok a m) (ok a m)
pure-kept P a m p = record { forth = λ b e h. (h, ok_same P h p); back = λ b e h q. h; only = λ n b e h z. clash (cc) }

none_kept : {A : Type 0} (P : A → Type 0) (n : ℕ) → Kept P (refuse n) (refuse n)
none_kept P n = record { forth = λ b e h. clash (cc); back = λ b e h q. h; only = λ k b e h z. clash (cc) }

-- the same reader before what is kept
same_kept : {A B : Type 0} (Q : B → Type 0) (x : Res A) (j k : A → ℕ → Res B) → ((a : A) (m : ℕ) → Kept Q (j a m) (k a m)) → Kept Q (next x j) (next x k)
unfolding next
same_kept Q (refuse n) j k f = none_kept Q n
same_kept Q (ok a m) j k f = f a m

-- what is refused there and follows what was read
next-only : {A B : Type 0} (P : A → Type 0) (Q : B → Type 0) (x y : Res A) (j k : A → ℕ → Res B) → Kept P x y → ((a : A) (m : ℕ) → P a → Kept Q (j a m) (k a m))
    → {n : ℕ} {a : A} {m : ℕ} {b : B} {e : ℕ} → next x j ≡ refuse n → y ≡ ok a m → k a m ≡ ok b e → n ≡ 56
unfolding next
next-only P Q (refuse i) y j k K f {n} {a} {m} h p q = let z : i ≡ 56 = K.only i a m refl p in let w : i ≡ n = cc in sym w ∙ z
next-only P Q (ok c i) y j k K f {n} {a} {m} {b} {e} h p q =
    let (u, w) = K.forth c i refl in
    let z : ok c i ≡ ok a m = sym u ∙ p in
    let v : c ≡ a = cc in
    let o : i ≡ m = cc in
    (f c i w).only n b e h (rw (v, o) q)

-- what is kept, and what follows it
next-kept : {A B : Type 0} (P : A → Type 0) (Q : B → Type 0) (x y : Res A) (j k : A → ℕ → Res B) → Kept P x y
    → ((a : A) (m : ℕ) → P a → Kept Q (j a m) (k a m)) → ((a : A) (m : ℕ) (b : B) (e : ℕ) → k a m ≡ ok b e → Q b → P a) → Kept Q (next x j) (next y k)
unfolding next
next-kept P Q x y j k K f i = record {
  forth = λ b e h.
      let (a, m, p, q) = next-ok x j h in
      let (p₁, w) = K.forth a m p in
      let (q₁, z) = (f a m w).forth b e q in
      (rw p₁ q₁, z);
  back = λ b e h z.
      let (a, m, p, q) = next-ok y k h in
      let w = i a m b e q z in
      rw (K.back a m p w) ((f a m w).back b e q z);
  only = λ n b e h z.
      let (a, m, p, q) = next-ok y k z in
      next-only P Q x y j k K f h p q;
}

module _ (mark : Label → Bool) (s : Bytes) where
  -- ---- leaves

  by-filled : (r : Bool) (l : LeafType) (c : Content) (k : Leaf) (at : ℕ) (v : Value) (m : ℕ) → content_by c k s at ≡ ok v m → Filled mark r (cleaf l) v
  unfolding content_by
  by-filled r l Nothing k at v m e = clash (cc)
  by-filled r l Flag k at v m e = let (b, i, p, q) = next-ok _ _ e in ok_same (Filled mark r (cleaf l)) q full-number
  by-filled r l (Number w) k at v m e = let (b, i, p, q) = next-ok _ _ e in ok_same (Filled mark r (cleaf l)) q full-number
  by-filled r l (Decimal w) k at v m e = let (b, i, p, q) = next-ok _ _ e in ok_same (Filled mark r (cleaf l)) q full-number
  by-filled r l Text k at v m e = let (b, i, p, q) = next-ok _ _ e in ok_same (Filled mark r (cleaf l)) q full-text

  -- ---- null

  never-null : {t : ColumnType} {X : Type 0} → Filled mark true t vnull → X
  never-null h = elim h [ ]

  null-kept : (r : Bool) (t : ColumnType) (p : Parser Value) (m : ℕ)
      → Kept (Filled mark r t) (next (choose r (refuse 56) (ok false m)) (λ here i. choose here (p s i) (ok vnull i))) (ok vnull m)
  unfolding next choose
  null-kept true t p m =
      record { forth = λ b e h. clash (cc); back = λ b e h q. never-null (ok_back (Filled mark true t) h q); only = λ n b e h z. let y : 56 ≡ n = cc in sym y }
  null-kept false t p m = pure-kept (Filled mark false t) vnull m full-null

  nullable-kept : (r : Bool) (t : ColumnType) (p q : Parser Value) → ((at : ℕ) → Kept (Filled mark r t) (p s at) (q s at))
      → (at : ℕ) → Kept (Filled mark r t) (nullable_marked r p s at) (nullable q s at)
  unfolding nullable_marked presence_marked nullable next choose
  nullable-kept r t p q h at = go (presence s at)
    where
      by : (here : Bool) (m : ℕ)
          → Kept (Filled mark r t) (next (choose here (ok true m) (choose r (refuse 56) (ok false m))) (λ here i. choose here (p s i) (ok vnull i)))
          (choose here (q s m) (ok vnull m))
      by true m = h m
      by false m = null-kept r t p m

      go : (x : Res Bool)
          → Kept (Filled mark r t) (next (next x (λ here m. choose here (ok true m) (choose r (refuse 56) (ok false m))))
          (λ here i. choose here (p s i) (ok vnull i)))
          (next x (λ here m. choose here (q s m) (ok vnull m)))
      go (refuse n) = none_kept (Filled mark r t) n
      go (ok here m) = by here m

  -- ---- elements

  first-full : {r : Bool} {t : ColumnType} {v : Value} {vs : Values} → FilledEach mark r t (vcons v vs) → Filled mark r t v × FilledEach mark r t vs
  first-full (full-more a bs) = (a, bs)

  times-kept : (r : Bool) (t : ColumnType) (p q : Parser Value) → ((at : ℕ) → Kept (Filled mark r t) (p s at) (q s at))
      → (n at : ℕ) → Kept (FilledEach mark r t) (times n p s at) (times n q s at)
  unfolding times
  times-kept r t p q h zero at = pure-kept (FilledEach mark r t) vnil at full-none
  times-kept r t p q h (suc n) at =
      next-kept (Filled mark r t) (FilledEach mark r t) _ _ _ _ (h at)
      (λ v m f. next-kept (FilledEach mark r t) (FilledEach mark r t) _ _ _ _ (times-kept r t p q h n m)
      (λ vs m g. pure-kept (FilledEach mark r t) (vcons v vs) m (full-more f g))
      (λ vs m ws e z k. (first-full (ok_back (FilledEach mark r t) z k)).1))
      (λ v m ws e z k. let (vs, i, y, w) = next-ok _ _ z in (first-full (ok_back (FilledEach mark r t) w k)).0)

  -- ---- each type

  struct-full : {r : Bool} {cs : Columns} {vs : Values} → Filled mark r (cstruct cs) (vstruct vs) → FilledAll mark cs vs
  struct-full (full-struct a) = a

  list_full : {r : Bool} {l : Label} {t : ColumnType} {vs : Values} → Filled mark r (clist l t) (vlist vs) → FilledEach mark (mark l) t vs
  list_full (full-list a) = a

  array-full : {r : Bool} {w : ℕ} {l : Label} {t : ColumnType} {vs : Values} → Filled mark r (carray w l t) (varray vs) → FilledEach mark (mark l) t vs
  array-full (full-array a) = a

  all-full : {l : Label} {t : ColumnType} {cs : Columns} {v : Value} {vs : Values}
      → FilledAll mark (ccons l t cs) (vcons v vs) → Filled mark (mark l) t v × FilledAll mark cs vs
  all-full (full-cons a bs) = (a, bs)

  mutual
    unfolding content_marked values_marked content values leaf_content struct_content list_content array_content dtype_of fields_of

    pub content-kept : (t : ColumnType) (r : Bool) (at : ℕ) → Kept (Filled mark r t) (content_marked mark t s at) (content (dtype_of t) s at)
    content-kept (cleaf l) r at = record {
      forth = λ v m e. (e, by-filled r l (content_of (leaf_of l)) (leaf_of l) at v m e);
      back = λ v m e f. e;
      only = λ
          n v m e f. let z : refuse n ≡ ok v m = sym e ∙ f in clash (cc);
    }
    content-kept (cstruct cs) r at =
        next-kept (FilledAll mark cs) (Filled mark r (cstruct cs)) _ _ _ _ (values-kept cs at)
        (λ vs m f. pure-kept (Filled mark r (cstruct cs)) (vstruct vs) m (full-struct f))
        (λ vs m v e z k. struct-full (ok_back (Filled mark r (cstruct cs)) z k))
    content-kept (clist l t) r at =
        same_kept (Filled mark r (clist l t)) _ _ _ (λ n i.
        next-kept (FilledEach mark (mark l) t) (Filled mark r (clist l t)) _ _ _ _
        (times-kept (mark l) t _ _ (λ at. nullable-kept (mark l) t _ _ (λ at. content-kept t (mark l) at) at) n i)
        (λ vs m f. pure-kept (Filled mark r (clist l t)) (vlist vs) m (full-list f))
        (λ vs m v e z k. list_full (ok_back (Filled mark r (clist l t)) z k)))
    content-kept (carray w l t) r at =
        next-kept (FilledEach mark (mark l) t) (Filled mark r (carray w l t)) _ _ _ _
        (times-kept (mark l) t _ _ (λ at. nullable-kept (mark l) t _ _ (λ at. content-kept t (mark l) at) at) w at)
        (λ vs m f. pure-kept (Filled mark r (carray w l t)) (varray vs) m (full-array f))
        (λ vs m v e z k. array-full (ok_back (Filled mark r (carray w l t)) z k))

    pub values-kept : (cs : Columns) (at : ℕ) → Kept (FilledAll mark cs) (values_marked mark cs s at) (values (fields_of cs) s at)
    values-kept cnil at = pure-kept (FilledAll mark cnil) vnil at full-nil
    values-kept (ccons l t cs) at =
        next-kept (Filled mark (mark l) t) (FilledAll mark (ccons l t cs)) _ _ _ _ (nullable-kept (mark l) t _ _ (λ at. content-kept t (mark l) at) at)
        (λ v m f. next-kept (FilledAll mark cs) (FilledAll mark (ccons l t cs)) _ _ _ _ (values-kept cs m)
        (λ vs m g. pure-kept (FilledAll mark (ccons l t cs)) (vcons v vs) m (full-cons f g))
        (λ vs m ws e z k. (all-full (ok_back (FilledAll mark (ccons l t cs)) z k)).1))
        (λ v m ws e z k. let (vs, i, y, w) = next-ok _ _ z in (all-full (ok_back (FilledAll mark (ccons l t cs)) w k)).0)

  -- a value of a column of the mark r
  pub value-kept : (r : Bool) (t : ColumnType) (at : ℕ) → Kept (Filled mark r t) (value_marked mark r t s at) (value (dtype_of t) s at)
  unfolding value_marked value
  value-kept r t at = nullable-kept r t _ _ (λ i. content-kept t r i) at

  -- ---- a record

  renumber-kept : {A : Type 0} (P : A → Type 0) (x y : Res A) → Kept P x y → Kept P (renumber record_number x) (renumber record_number y)
  unfolding renumber record_number choose
  renumber-kept P (refuse n) (refuse k) K = record { forth = λ a m h. clash (cc); back = λ a m h p. clash (cc); only = λ i a m h z. clash (cc) }
  renumber-kept P (refuse n) (ok b i) K = record {
    forth = λ a m h. clash (cc);
    back = λ a m h p. let z = K.back a m h p in clash (cc);
    only = λ k a m h z.
        let e : n ≡ 56 = K.only n b i refl refl in
        let g : record_number n ≡ k = cc in
        sym g ∙ ap record_number e;
  }
  renumber-kept P (ok a i) (refuse k) K =
      record { forth = λ a m h. let z = (K.forth a m h).0 in clash (cc); back = λ a m h p. clash (cc); only = λ n a m h z. clash (cc) }
  renumber-kept P (ok a i) (ok b k) K = K

  -- "To fit, a record must now also meet no 56"
  pub record_kept : (cs : Columns) → Kept (FilledAll mark cs) (record_marked mark cs s) (record_of (fields_of cs) s)
  unfolding record_marked record_marked_from record_of record_from
  record_kept cs =
      same_kept (FilledAll mark cs) _ _ _ (λ u i.
      next-kept (FilledAll mark cs) (FilledAll mark cs) _ _ _ _ (renumber-kept (FilledAll mark cs) _ _ (values-kept cs i))
      (λ vs m f. same_kept (FilledAll mark cs) _ _ _ (λ u m. pure-kept (FilledAll mark cs) vs m f))
      (λ vs m ws e z k. let (u, i, y, w) = next-ok _ _ z in ok_back (FilledAll mark cs) w k))
