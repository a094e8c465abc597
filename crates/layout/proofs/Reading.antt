-- The loops over columns: what holds after i of n columns, and what is returned on each way out.
use Prim.Native.Nat.{ℕ, zero, suc, ◌+◌, ◌-◌, ◌≤◌, ◌<◌}
use mathlib.Core.Path.{◌≡◌, refl, sym, ap, ◌∙◌}
use mathlib.Core.List.{List, [], ◌∷◌, ◌++◌}
use mathlib.Core.Bool.{Bool, true, false, ◌||◌, or_assoc, or-false}
use native.Mathlib.Omega.{arith}
use Rattle.layout.specs.Parser.{Res, refuse, ok, next, choose, Parser}
use Rattle.layout.specs.Tree.{Label, ColumnType, ccons}
use Rattle.layout.specs.Layout.{label, columns, type, same_label, repeats_any}
use Rattle.layout.specs.code.Scan.{repeats, found}
use Rattle.layout.specs.code.Seen.{label_hash, Meets, Keeps, Begins, Noted, Notes}
use Rattle.layout.specs.code.Answers.{moved_of, label_res, label_at}
use Rattle.layout.specs.declared.cursor.Cursor.{Cursor}
use Rattle.layout.specs.declared.cursor.Moved.{Moved}
use Rattle.layout.specs.declared.columns.Labelled.{Labelled}
use Rattle.layout.specs.declared.columns.Label.{Label as LabelSpan}
use Rattle.layout.specs.declared.edition.Edition.{Edition}
use Rattle.layout.specs.declared.columns.Siblings.{Siblings}
use Rattle.layout.proofs.Ways.{clash, moved_to, moved_refused, to-pure}
use Rattle.layout.proofs.FreeRule.{type_free}
use Rattle.layout.proofs.Noting.{keeps_same, keeps_on, meets-kept}

-- what a label's answer says of the parser
label_got : (s : List ℕ) (x : Res Label) {p : Labelled} {k : LabelSpan} {c : Cursor} → label_res s p ≡ x → p ≡ Labelled.Is k c → x ≡ ok (label_at s k) c.at
label_got s x e f = sym e ∙ ap (label_res s) f

label-none : (s : List ℕ) (x : Res Label) {p : Labelled} {n : ℕ} → label_res s p ≡ x → p ≡ Labelled.Refused n → x ≡ refuse n
label-none s x e f = sym e ∙ ap (label_res s) f

pub repeats_any_snoc : (r : Siblings) (l : Label) (ms : List Label) (m : Label) → repeats_any r l (ms ++ (m ∷ [])) ≡ (repeats_any r l ms || same_label r l m)
unfolding repeats_any
repeats_any_snoc r l [] m = or-false (same_label r l m)
repeats_any_snoc r l (k ∷ ms) m = rw (repeats_any_snoc r l ms m) (sym (or_assoc (same_label r l k) (repeats_any r l ms) (same_label r l m)))

-- one more column of a scan
scan_suc : (v : Edition) (r : Siblings) (d : ℕ) (l : Label) (n : ℕ) (s : List ℕ) (at : ℕ) {k : Label} {m e : ℕ} {t : ColumnType} → label v s at ≡ ok k m
    → type v Siblings.Free d s m ≡ ok t e → repeats v r d l (suc n) s at ≡ (same_label r l k || repeats v r d l n s e)
unfolding repeats
scan_suc v r d l n s at h g = rw (h, g)

-- one more column read
pub columns-suc : (v : Edition) (r : Siblings) (p : Parser ColumnType) (n : ℕ) (ms : List Label) (s : List ℕ) (at : ℕ) {l : Label} {m e : ℕ} {t : ColumnType}
    → label v s at ≡ ok l m → p s m ≡ ok t e → repeats_any r l ms ≡ false
    → moved_of (columns v r p (suc n) ms s at) ≡ moved_of (columns v r p n (ms ++ (l ∷ [])) s e)
unfolding columns next choose
columns-suc v r p n ms s at {l} {m} {e} {t} h g z = rw (h, g, z) (sym (to-pure (ccons l t) (columns v r p n (ms ++ (l ∷ [])) s e) refl))

-- whether one of the earlier labels or the one after them is repeated
snoc_met : (v : Edition) (r : Siblings) (s : List ℕ) (from : ℕ) (l k : Label) (ms : List Label) {t u : List ℕ}
    → ((l : Label) → repeats_any r l ms ≡ true → Meets v r l s t (label_hash r from l)) → Keeps t u → Notes v r s from k u
    → repeats_any r l (ms ++ (k ∷ [])) ≡ true → Meets v r l s u (label_hash r from l)
snoc_met v r s from l k ms {t} {u} f a m e = go (repeats_any r l ms) refl (sym (repeats_any_snoc r l ms k) ∙ e)
  where
    go : (b : Bool) → repeats_any r l ms ≡ b → (b || same_label r l k) ≡ true → Meets v r l s u (label_hash r from l)
    go true q h = meets-kept a (f l q)
    go false q h = m.notes l h

-- after i of n columns; the table was t₀ and is t
pub record Reading (v : Edition) (r inner : Siblings) (d : ℕ) (s : List ℕ) (n from : ℕ) (t₀ : List ℕ) (i at : ℕ) (t : List ℕ) : Type 0 where
  pub within : i ≤ n
  pub earlier : List Label
  pub rest : moved_of (columns v r (type v inner d) n [] s from) ≡ moved_of (columns v r (type v inner d) (n - i) earlier s at)
  pub passed : (l : Label) (m : ℕ) → repeats v r d l (i + m) s from ≡ (repeats_any r l earlier || repeats v r d l m s at)
  pub kept : Keeps t₀ t
  pub met : (l : Label) → repeats_any r l earlier ≡ true → Meets v r l s t (label_hash r from l)

module _ (v : Edition) (r inner : Siblings) (d : ℕ) (s : List ℕ) (n from : ℕ) (t₀ : List ℕ) where
  pub reading_none : Reading v r inner d s n from t₀ 0 from t₀
  unfolding repeats_any
  reading_none = record {
    within = omega arith;
    earlier = [];
    rest = ap (λ (k : ℕ). moved_of (columns v r (type v inner d) k [] s from)) (let e : n ≡ n - 0 = omega arith in e);
    passed = λ l m. ap (λ (k : ℕ). repeats v r d l k s from) (let e : 0 + m ≡ m = omega arith in e);
    kept = keeps_same t₀;
    met = λ l e. clash (cc);
  }

  module _ (i at : ℕ) {t : List ℕ} (a : Reading v r inner d s n from t₀ i at t) where
    pub reading_all : n ≤ i → (Moved.To (record { at = at }) ≡ moved_of (columns v r (type v inner d) n [] s from)) × Keeps t₀ t
    unfolding columns next choose moved_of
    reading_all h = let e : n - i ≡ 0 = omega arith in (rw (a.rest, e), a.kept)

    module _ (lt : i < n) where
      step : n - i ≡ suc (n - (i + 1))
      step = omega arith

      pub reading-no-label : {p : Labelled} {k : ℕ} → label_res s p ≡ label v s at → p ≡ Labelled.Refused k
          → (Moved.Refused k ≡ moved_of (columns v r (type v inner d) n [] s from)) × Keeps t₀ t
      unfolding columns next choose moved_of
      reading-no-label e f = (rw (a.rest, step) (rw (label-none s (label v s at) e f)), a.kept)

      module _ {p : Labelled} {k : LabelSpan} {c : Cursor} (e : label_res s p ≡ label v s at) (f : p ≡ Labelled.Is k c)
          {q : Moved} {t₁ : List ℕ} (g : (q ≡ moved_of (type v inner d s c.at)) × Keeps t t₁) where
        pub reading-no-type : {o : ℕ} → q ≡ Moved.Refused o → (Moved.Refused o ≡ moved_of (columns v r (type v inner d) n [] s from)) × Keeps t₀ t₁
        unfolding columns next choose moved_of
        reading-no-type h = (
          rw (a.rest, step) (rw (label_got s (label v s at) e f, moved_refused (type v inner d s c.at) g.0 h)),
          keeps_on a.kept g.1,
        )

        -- the code's test is the definition's
        tested : {b : Bool} → b ≡ repeats v r d (label_at s k) i s from → b ≡ repeats_any r (label_at s k) a.earlier
        unfolding repeats
        tested h = h ∙ ap (λ (j : ℕ). repeats v r d (label_at s k) j s from) (let z : i ≡ i + 0 = omega arith in z)
            ∙ a.passed (label_at s k) 0 ∙ or-false (repeats_any r (label_at s k) a.earlier)

        pub reading-noted : Noted v r d (label_at s k) i s from t₁
        reading-noted = record { noted = λ h. meets-kept g.1 (a.met (label_at s k) (sym (tested (sym h)))) }

        pub reading_begins : Begins v s at (label_at s k)
        reading_begins = record { next = c.at; reads = label_got s (label v s at) e f }

        module _ {j : Cursor} (h : q ≡ Moved.To j) {b : Bool} {t₂ : List ℕ}
            (x : (b ≡ repeats v r d (label_at s k) i s from) × (Keeps t₁ t₂ × Notes v r s from (label_at s k) t₂)) where
          pub reading-repeated : b ≡ true → (Moved.Refused 5 ≡ moved_of (columns v r (type v inner d) n [] s from)) × Keeps t₀ t₂
          unfolding columns next choose moved_of
          reading-repeated y =
              let z : repeats_any r (label_at s k) a.earlier ≡ true = sym (tested x.0) ∙ y in (
                rw (a.rest, step) (rw (label_got s (label v s at) e f, (moved_to (type v inner d s c.at) g.0 h).1, z)),
                keeps_on a.kept (keeps_on g.1 x.1.0),
              )

          pub reading-more : b ≡ false → Reading v r inner d s n from t₀ (i + 1) j.at t₂
          reading-more y =
              let z : repeats_any r (label_at s k) a.earlier ≡ false = sym (tested x.0) ∙ y in
              let w = label_got s (label v s at) e f in
              let u = moved_to (type v inner d s c.at) g.0 h in
              let o = type_free v inner s d c.at u.0 j.at u.1 in
              record {
                within = omega arith;
                earlier = a.earlier ++ (label_at s k ∷ []);
                rest = a.rest ∙ rw step (columns-suc v r (type v inner d) (n - (i + 1)) a.earlier s at w u.1 z);
                passed = λ l m.
                    ap (λ (o : ℕ). repeats v r d l o s from) (let z : i + 1 + m ≡ i + suc m = omega arith in z)
                    ∙ a.passed l (suc m)
                    ∙ rw (scan_suc v r d l m s at w o, repeats_any_snoc r l a.earlier (label_at s k))
                    (sym (or_assoc (repeats_any r l a.earlier) (same_label r l (label_at s k)) (repeats v r d l m s j.at)));
                kept = keeps_on a.kept (keeps_on g.1 x.1.0);
                met = λ l y. snoc_met v r s from l (label_at s k) a.earlier a.met (keeps_on g.1 x.1.0) x.1.1 y;
              }

-- a scan for a label
pub record Scanning (v : Edition) (r : Siblings) (d : ℕ) (l : Label) (s : List ℕ) (n from i at : ℕ) : Type 0 where
  pub within : i ≤ n
  pub rest : repeats v r d l n s from ≡ repeats v r d l (n - i) s at

module _ (v : Edition) (r : Siblings) (d : ℕ) (l : Label) (s : List ℕ) (n from : ℕ) where
  pub scanning_none : Scanning v r d l s n from 0 from
  scanning_none = record {
    within = omega arith;
    rest = ap (λ (k : ℕ). repeats v r d l k s from) (let e : n ≡ n - 0 = omega arith in e);
  }

  module _ (i at : ℕ) (a : Scanning v r d l s n from i at) where
    pub scanning_all : n ≤ i → false ≡ repeats v r d l n s from
    unfolding repeats
    scanning_all h = let e : n - i ≡ 0 = omega arith in rw (a.rest, e)

    module _ (lt : i < n) where
      left : n - i ≡ suc (n - (i + 1))
      left = omega arith

      pub scanning-no-label : {p : Labelled} {k : ℕ} → label_res s p ≡ label v s at → p ≡ Labelled.Refused k → false ≡ repeats v r d l n s from
      unfolding repeats
      scanning-no-label e f = rw (a.rest, left) (rw (label-none s (label v s at) e f))

      module _ {p : Labelled} {k : LabelSpan} {c : Cursor} {b : Bool} (e : label_res s p ≡ label v s at) (f : p ≡ Labelled.Is k c)
          (x : b ≡ same_label r l (label_at s k)) where
        pub scanning-found : b ≡ true → true ≡ repeats v r d l n s from
        unfolding repeats
        scanning-found y = let z : same_label r l (label_at s k) ≡ true = sym x ∙ y in rw (a.rest, left) (rw (label_got s (label v s at) e f, z))

        pub scanning-no-type : {q : Moved} {o : ℕ} → b ≡ false → q ≡ moved_of (type v Siblings.Free d s c.at) → q ≡ Moved.Refused o
            → false ≡ repeats v r d l n s from
        unfolding repeats
        scanning-no-type y g h =
            let z : same_label r l (label_at s k) ≡ false = sym x ∙ y in
            rw (a.rest, left) (rw (label_got s (label v s at) e f, z, moved_refused (type v Siblings.Free d s c.at) g h))

        pub scanning-more : {q : Moved} {j : Cursor} → b ≡ false → q ≡ moved_of (type v Siblings.Free d s c.at) → q ≡ Moved.To j
            → Scanning v r d l s n from (i + 1) j.at
        unfolding repeats
        scanning-more y g h =
            let z : same_label r l (label_at s k) ≡ false = sym x ∙ y in
            record {
              within = omega arith;
              rest = a.rest ∙ rw left (rw (label_got s (label v s at) e f, z, (moved_to (type v Siblings.Free d s c.at) g h).1));
            }

-- nothing repeats where nothing is ruled out
found_none : {A : Type 0} (x : Res A) (k : A → ℕ → Bool) → ((a : A) (e : ℕ) → false ≡ k a e) → false ≡ found x k
found_none (refuse n) k h = refl
found_none (ok a e) k h = h a e

scan_free : (v : Edition) (d : ℕ) (l : Label) (n : ℕ) (s : List ℕ) (at : ℕ) → false ≡ repeats v Siblings.Free d l n s at
unfolding repeats
scan_free v d l zero s at = refl
scan_free v d l (suc n) s at = found_none (label v s at) _ (λ m e. found_none (type v Siblings.Free d s e) _ (λ t o. scan_free v d l n s o))

pub scanning_free : (v : Edition) (r : Siblings) (d : ℕ) (l : Label) (n : ℕ) (s : List ℕ) (at : ℕ) → r ≡ Siblings.Free → false ≡ repeats v r d l n s at
scanning_free v r d l n s at h = rw h (scan_free v d l n s at)
