-- The table of labels that were read: which slots are looked at, what a search meets, and what noting a label changes.
-- Equal labels have equal hashes. Assumes nothing.
use Prim.Native.Nat.{ℕ, zero, suc, ◌+◌, ◌-◌, ◌*◌, ◌/◌, ◌%◌, ◌≤◌, ◌<◌}
use mathlib.Core.Path.{◌≡◌, refl, sym, ap, ◌∙◌, subst}
use mathlib.Core.List.{List}
use mathlib.Core.Bool.{Bool, true, false}
use native.Mathlib.Omega.{arith}
use native.Mathlib.Nat.{add-sub_cancel_left, mul-le-mul_right}
use native.Mathlib.Decide.{ℕ_discrete}
use lib.Dec.{ltb, eqb}
use lib.ListN.{length, get_or, set, take, drop, length-set, drop_of_length-le}
use lib.Seq.{drop-cons, get_or-set_same, get_or-set_other}
use borrow.Author.Tests.{ltb-true, ltb-false, eqb-true, eq-eqb, ne_eqb, lt-ltb, le-ltb}
use Rattle.layout.specs.Bytes.{Bytes}
use Rattle.layout.specs.Parser.{Res, refuse, ok, choose}
use Rattle.layout.specs.Tree.{Label}
use Rattle.layout.specs.Layout.{label, same_label}
use Rattle.layout.specs.code.Answers.{label_at, label_res}
use Rattle.layout.specs.code.Seen.{mixed, hash_bytes, label_hash, far, first_slot, slot_after, slot_at, may_repeat}
use Rattle.layout.specs.code.Seen.{Meets, Empty, Searched, Keeps, Begins, Noted, Notes}
use Rattle.layout.specs.code.Scan.{found, repeats}
use Rattle.layout.specs.declared.edition.Edition.{Edition}
use Rattle.layout.specs.declared.cursor.Cursor.{Cursor}
use Rattle.layout.specs.declared.columns.Label.{Label as LabelSpan}
use Rattle.layout.specs.declared.columns.Labelled.{Labelled}
use Rattle.layout.specs.declared.columns.Siblings.{Siblings}
use Rattle.layout.proofs.Ways.{clash, choose-true, choose-false}
use Rattle.layout.proofs.OfBytes.{same_bytes_eq}

-- ---- hashes

pub record Hashing (from : ℕ) (b : Bytes) (h i : ℕ) : Type 0 where
  pub within : i ≤ length b
  pub rest : hash_bytes from b ≡ hash_bytes h (drop i b)

module _ (from : ℕ) (b : Bytes) where
  pub hashing_none : Hashing from b from 0
  hashing_none = record { within = omega arith; rest = refl }

  module _ (h i : ℕ) (a : Hashing from b h i) where
    pub hashing_more : {k x : ℕ} → i + 1 < length b → x ≡ get_or b i 0 + 256 * get_or b (i + 1) 0 → k ≡ mixed h x → Hashing from b k (i + 2)
    unfolding hash_bytes
    hashing_more lt y e =
        let one : i + 1 ≡ suc i = omega arith in
        let two : i + 2 ≡ suc (suc i) = omega arith in
        let first = drop-cons b i 0 (let z : i < length b = omega arith in z) in
        let second = drop-cons b (suc i) 0 (let z : suc i < length b = omega arith in z) in
        record { within = omega arith; rest = a.rest ∙ rw (two, first, second, e, y, one) }

    pub hashing_last : {k x : ℕ} → i < length b → length b ≤ i + 1 → x ≡ get_or b i 0 + 256 * 0 → k ≡ mixed h x → k ≡ hash_bytes from b
    unfolding hash_bytes
    hashing_last {x = x} lt le y e =
        let z : x ≡ get_or b i 0 = omega arith in
        rw (e, z, a.rest, drop-cons b i 0 lt, drop_of_length-le b (let z : length b ≤ suc i = omega arith in z))

    pub hashing_all : length b ≤ i → h ≡ hash_bytes from b
    unfolding hash_bytes
    hashing_all le = rw (a.rest, drop_of_length-le b le)

-- labels that are the same under a rule
pub same_hash : (r : Siblings) (from : ℕ) (l k : Label) → same_label r l k ≡ true → label_hash r from l ≡ label_hash r from k
same_hash Siblings.Names from l k e = ap (hash_bytes (from % 65536)) (same_bytes_eq l.name k.name e)
same_hash Siblings.Ids from l k e = ap (mixed (mixed 0 (from % 65536))) (eqb-true l.id.0 k.id.0 e)
same_hash Siblings.Free from l k e = clash (cc)

module _ (s : Bytes) (from : ℕ) (l : LabelSpan) {r : Siblings} where
  pub hash_name : {h : ℕ} → r ≡ Siblings.Names → h ≡ hash_bytes (from % 65536) (take (l.name.start + l.name.len - l.name.start) (drop l.name.start s))
      → h ≡ label_hash r from (label_at s l)
  hash_name e g = rw e (rw (add-sub_cancel_left l.name.start l.name.len) at g)

  pub hash_id : {h g : ℕ} → r ≡ Siblings.Ids → g ≡ mixed 0 (from % 65536) → h ≡ mixed g l.id.0 → h ≡ label_hash r from (label_at s l)
  hash_id e f g = rw e (rw f at g)

  pub hash_none : r ≡ Siblings.Free → 0 ≡ label_hash r from (label_at s l)
  hash_none e = rw e

-- ---- slots

times_le : (h m : ℕ) → h < 4294967296 → h * m ≤ 4294967295 * m
times_le h m lt = mul-le-mul_right m (let z : h ≤ 4294967295 = omega arith in z)

module _ (n h : ℕ) (lt : h < 4294967296) where
  pub product_lt : h * (n % 4294967296) < 18446744073709551616
  product_lt = let z = times_le h (n % 4294967296) lt in omega arith

  pub first_lt : 0 < n → h * (n % 4294967296) / 4294967296 < n
  first_lt some = let z = times_le h (n % 4294967296) lt in omega arith

  pub first-is : h * (n % 4294967296) / 4294967296 ≡ first_slot n h
  unfolding first_slot
  first-is = refl

pub slot_on : (n first i : ℕ) → i < n - first → first + i ≡ slot_after n first i
unfolding slot_after
slot_on n first i lt = choose-true (ltb i (n - first)) (first + i) (i - (n - first)) (lt-ltb i (n - first) lt) refl

pub slot-round : (n first i : ℕ) → n - first ≤ i → i - (n - first) ≡ slot_after n first i
unfolding slot_after
slot-round n first i le = choose-false (ltb i (n - first)) (first + i) (i - (n - first)) (le-ltb i (n - first) le) refl

-- ---- what a slot tells

module _ (v : Edition) (r : Siblings) (l : Label) (s : Bytes) (x : ℕ) where
  pub may_far : x ≡ far → true ≡ may_repeat v r l s x
  unfolding may_repeat
  may_far e = choose-true (eqb x far) true (found (label v s x) (λ m e. same_label r l m)) (eq-eqb x far e) refl

  may-found : (x ≡ far → ⊥) → {b : Bool} → b ≡ found (label v s x) (λ m e. same_label r l m) → b ≡ may_repeat v r l s x
  unfolding may_repeat
  may-found e h = choose-false (eqb x far) true (found (label v s x) (λ m e. same_label r l m)) (ne_eqb x far e) h

  pub may_label : (x ≡ far → ⊥) → {p : Labelled} {m : LabelSpan} {c : Cursor} {b : Bool} {at : ℕ} → at ≡ x → label_res s p ≡ label v s at → p ≡ Labelled.Is m c
      → b ≡ same_label r l (label_at s m) → b ≡ may_repeat v r l s x
  may_label e {p} {m} {c} z f g h =
      may-found e (h ∙ ap (λ (y : Res Label). found y (λ m e. same_label r l m)) (sym (ap (label_res s) g) ∙ f ∙ ap (label v s) z))

  pub may_none : (x ≡ far → ⊥) → {p : Labelled} {k at : ℕ} → at ≡ x → label_res s p ≡ label v s at → p ≡ Labelled.Refused k → false ≡ may_repeat v r l s x
  may_none e z f g = may-found e (ap (λ (y : Res Label). found y (λ m e. same_label r l m)) (sym (ap (label_res s) g) ∙ f ∙ ap (label v s) z))

same_trans : (r : Siblings) (a b c : Label) → same_label r a b ≡ true → same_label r b c ≡ true → same_label r a c ≡ true
same_trans Siblings.Names a b c e f = rw (same_bytes_eq a.name b.name e) f
same_trans Siblings.Ids a b c e f = rw (eqb-true a.id.0 b.id.0 e) f
same_trans Siblings.Free a b c e f = clash (cc)

found_as : (r : Siblings) (k l : Label) (y : Res Label) → same_label r k l ≡ true → found y (λ m e. same_label r l m) ≡ true → found y
    (λ m e. same_label r k m) ≡ true
found_as r k l (refuse n) e f = let w : false ≡ true = f in clash (cc)
found_as r k l (ok m o) e f = same_trans r k l m e f

-- a label that repeats another
may_as : (v : Edition) (r : Siblings) (k l : Label) (s : Bytes) (x : ℕ) → same_label r k l ≡ true → may_repeat v r l s x ≡ true → may_repeat v r k s x ≡ true
unfolding may_repeat choose
may_as v r k l s x e f = go (eqb x far) refl f
  where
    go : (b : Bool) → eqb x far ≡ b → choose b true (found (label v s x) (λ m e. same_label r l m)) ≡ true
        → choose b true (found (label v s x) (λ m e. same_label r k m)) ≡ true
    go true q h = refl
    go false q h = found_as r k l (label v s x) e h

-- ---- a search

pub record Searching (v : Edition) (r : Siblings) (l : Label) (s : Bytes) (t : List ℕ) (h i : ℕ) : Type 0 where
  pub within : i ≤ length t
  pub passed : (j : ℕ) → j < i → (0 < slot_at t h j) × (may_repeat v r l s (slot_at t h j) ≡ false)

module _ (v : Edition) (r : Siblings) (l : Label) (s : Bytes) (t : List ℕ) (h : ℕ) where
  pub searching_none : Searching v r l s t h 0
  searching_none = record { within = omega arith; passed = λ j lt. absurd (omega arith) }

  -- no slot at all
  pub searched_none : {k : ℕ} → length t ≡ 0 → Searched v r l s t h k
  searched_none e = record {
    new = λ lt. absurd (omega arith);
    met = λ le. record { i = 0; filled = λ j lt. absurd (omega arith); told = λ lt. absurd (omega arith) };
  }

  module _ (i : ℕ) (a : Searching v r l s t h i) where
    pub searching_full : {k : ℕ} → length t ≤ i → k ≡ length t → Searched v r l s t h k
    searching_full le e = record {
      new = λ lt. absurd (omega arith);
      met = λ z. record { i = i; filled = λ j lt. (a.passed j lt).0; told = λ lt. absurd (omega arith) };
    }

    -- the slot that is looked at, as the code finds it
    module _ (lt : i < length t) {first k x : ℕ} (e : first ≡ first_slot (length t) h) (f : k ≡ slot_after (length t) first i) (g : x ≡ get_or t k 0) where
      here : k ≡ slot_after (length t) (first_slot (length t) h) i
      here = f ∙ ap (λ (o : ℕ). slot_after (length t) o i) e

      holds : x ≡ slot_at t h i
      holds = g ∙ ap (λ (o : ℕ). get_or t o 0) here

      none-met : x ≡ 0 → Meets v r l s t h → ⊥
      none-met z M = go (ltb M.i i) refl
        where
          level : M.i ≡ i → ⊥
          level q = let y : 0 < slot_at t h i = subst (λ (o : ℕ). 0 < slot_at t h o) q (M.told (omega arith)).0 in let w = holds in omega arith

          later : (b : Bool) → ltb i M.i ≡ b → i ≤ M.i → ⊥
          later true q le = let y = M.filled i (ltb-true i M.i q) in let w = holds in omega arith
          later false q le = let y = ltb-false i M.i q in level (omega arith)

          go : (b : Bool) → ltb M.i i ≡ b → ⊥
          go true q =
              let y = ltb-true M.i i q in
              let p : may_repeat v r l s (slot_at t h M.i) ≡ false = (a.passed M.i y).1 in
              let w : may_repeat v r l s (slot_at t h M.i) ≡ true = (M.told (omega arith)).1 in
              let u : false ≡ true = sym p ∙ w in
              clash (cc)
          go false q = later (ltb i M.i) refl (ltb-false M.i i q)

      pub searching-empty : k < length t → x ≡ 0 → Searched v r l s t h k
      searching-empty within z = record {
        new = λ o. record { i = i; is = here; empty = sym g ∙ z; filled = λ j q. (a.passed j q).0; new = none-met z };
        met = λ le. absurd (omega arith);
      }

      module _ (some : x ≡ 0 → ⊥) {b : Bool} (y : b ≡ may_repeat v r l s x) where
        filled : 0 < slot_at t h i
        filled = subst (λ (o : ℕ). 0 < o) holds (go x some)
          where
            go : (o : ℕ) → (o ≡ 0 → ⊥) → 0 < o
            go zero n = absurd (n refl)
            go (suc o) n = omega arith

        pub searching-met : {n : ℕ} → b ≡ true → n ≡ length t → Searched v r l s t h n
        searching-met z e = record {
          new = λ o. absurd (omega arith);
          met = λ o. record { i = i; filled = λ j q. (a.passed j q).0; told = λ q. (filled, ap (may_repeat v r l s) (sym holds) ∙ sym y ∙ z) };
        }

        pub searching-more : b ≡ false → Searching v r l s t h (i + 1)
        searching-more z = record { within = omega arith; passed = λ j q. go j q (ℕ_discrete j i) }
          where
            below : (j o : ℕ) → j < o + 1 → (j ≡ o → ⊥) → j < o
            below j o q n = omega arith

            go : (j : ℕ) → j < i + 1 → Dec (j ≡ i) → (0 < slot_at t h j) × (may_repeat v r l s (slot_at t h j) ≡ false)
            go j q (yes p) =
                subst (λ (o : ℕ). (0 < slot_at t h o) × (may_repeat v r l s (slot_at t h o) ≡ false)) (sym p)
                (filled, ap (may_repeat v r l s) (sym holds) ∙ sym y ∙ z)
            go j q (no n) = a.passed j (below j i q n)

  -- the first slot is empty
  pub searched_first : {first : ℕ} → first ≡ first_slot (length t) h → first < length t → get_or t first 0 ≡ 0 → Searched v r l s t h first
  searched_first {first} e lt z = searching-empty 0 searching_none (omega arith) e here refl lt z
    where
      here : first ≡ slot_after (length t) first 0
      here = (let y : first ≡ first + 0 = omega arith in y) ∙ slot_on (length t) first 0 (omega arith)

-- ---- the table

pub keeps_same : (t : List ℕ) → Keeps t t
keeps_same t = record { long = refl; kept = λ k m. refl }

pub keeps_on : {t u w : List ℕ} → Keeps t u → Keeps u w → Keeps t w
keeps_on {t} {u} {w} a b = record {
  long = a.long ∙ b.long;
  kept = λ k m. b.kept k (subst (λ (o : ℕ). 0 < o) (sym (a.kept k m)) m) ∙ a.kept k m;
}

-- a slot that is filled stays as it is
slot_kept : {t u : List ℕ} → Keeps t u → (h j : ℕ) → 0 < slot_at t h j → slot_at u h j ≡ slot_at t h j
slot_kept {t} {u} a h j some =
    ap (λ (n : ℕ). get_or u (slot_after n (first_slot n h) j) 0) (sym a.long) ∙ a.kept (slot_after (length t) (first_slot (length t) h) j) some

filled-kept : {t u : List ℕ} → Keeps t u → (h j : ℕ) → 0 < slot_at t h j → 0 < slot_at u h j
filled-kept a h j some = subst (λ (o : ℕ). 0 < o) (sym (slot_kept a h j some)) some

pub meets-kept : {v : Edition} {r : Siblings} {l : Label} {s : Bytes} {t u : List ℕ} {h : ℕ} → Keeps t u → Meets v r l s t h → Meets v r l s u h
meets-kept {v} {r} {l} {s} {t} {u} {h} a M = record {
  i = M.i;
  filled = λ j lt. filled-kept a h j (M.filled j lt);
  told = λ lt.
      let y = M.told (subst (λ (n : ℕ). M.i < n) (sym a.long) lt) in
      (filled-kept a h M.i y.0, ap (may_repeat v r l s) (slot_kept a h M.i y.0) ∙ y.1);
}

-- a label that repeats another is looked for at the same slots
meets_as : {v : Edition} {r : Siblings} {k l : Label} {s : Bytes} {t : List ℕ} {h : ℕ} → same_label r k l ≡ true → Meets v r l s t h → Meets v r k s t h
meets_as {v} {r} {k} {l} {s} {t} {h} e M = record {
  i = M.i;
  filled = M.filled;
  told = λ lt. let y = M.told lt in (y.0, may_as v r k l s (slot_at t h M.i) e y.1);
}

-- a search that met a column
pub notes-met : {v : Edition} {r : Siblings} {s : Bytes} {from : ℕ} {l : Label} {t : List ℕ} {h : ℕ} → h ≡ label_hash r from l → Meets v r l s t h
    → Notes v r s from l t
notes-met {v} {r} {s} {from} {l} {t} {h} e M = record {
  notes = λ k q. subst (λ (o : ℕ). Meets v r k s t o) (e ∙ sym (same_hash r from k l q)) (meets_as q M);
}

-- a search that ended at an empty slot
module _ {v : Edition} {r : Siblings} {s : Bytes} {l : Label} {t : List ℕ} {h k : ℕ} (E : Empty v r l s t h k) where
  pub not_noted : {d n from : ℕ} → h ≡ label_hash r from l → Noted v r d l n s from t → false ≡ repeats v r d l n s from
  not_noted {d} {n} {from} e a = go (repeats v r d l n s from) refl
    where
      go : (x : Bool) → repeats v r d l n s from ≡ x → false ≡ x
      go false q = refl
      go true q = absurd (E.new (subst (λ (o : ℕ). Meets v r l s t o) (sym e) (a.noted q)))

  module _ (lt : k < length t) {at x : ℕ} (some : 0 < x) (is : (x ≡ far → ⊥) → x ≡ at) where
    pub place-keeps : Keeps t (set t k x)
    place-keeps = record { long = sym (length-set t k x); kept = λ j m. get_or-set_other t k j x 0 (λ q. other j m q) }
      where
        other : (j : ℕ) → 0 < get_or t j 0 → j ≡ k → ⊥
        other j m q = let z : get_or t j 0 ≡ 0 = ap (λ (o : ℕ). get_or t o 0) q ∙ E.empty in omega arith

    placed : slot_at (set t k x) h E.i ≡ x
    placed =
        ap (λ (n : ℕ). get_or (set t k x) (slot_after n (first_slot n h) E.i) 0) (length-set t k x)
        ∙ ap (λ (o : ℕ). get_or (set t k x) o 0) (sym E.is) ∙ get_or-set_same t k x 0 lt

    tells : Begins v s at l → (m : Label) → same_label r m l ≡ true → may_repeat v r m s x ≡ true
    tells B m q = go (ℕ_discrete x far)
      where
        go : Dec (x ≡ far) → may_repeat v r m s x ≡ true
        go (yes p) = sym (may_far v r m s x p)
        go (no n) =
            sym (may-found v r m s x n
            (sym (ap (λ (y : Res Label). found y (λ o e. same_label r m o)) (ap (label v s) (is n) ∙ B.reads) ∙ q)))

    pub place-notes : {from : ℕ} → h ≡ label_hash r from l → Begins v s at l → Notes v r s from l (set t k x)
    place-notes {from} e B = record {
      notes = λ m q. subst (λ (o : ℕ). Meets v r m s (set t k x) o) (e ∙ sym (same_hash r from m l q)) (met m q);
    }
      where
        met : (m : Label) → same_label r m l ≡ true → Meets v r m s (set t k x) h
        met m q = record {
          i = E.i;
          filled = λ j o. filled-kept place-keeps h j (E.filled j o);
          told = λ o. (subst (λ (y : ℕ). 0 < y) (sym placed) some, ap (may_repeat v r m s) placed ∙ tells B m q);
        }
