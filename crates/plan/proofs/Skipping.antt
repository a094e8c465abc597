-- A table of where selectors end: an empty one, what is found, one entry more; and passing over selectors by it. Assumes
-- nothing.
use Prim.Native.Nat.{ℕ, zero, suc, ◌+◌, ◌-◌, ◌*◌, ◌/◌, ◌≤◌, ◌<◌}
use mathlib.Core.Path.{◌≡◌, refl, sym, ap, ap₂, ◌∙◌, subst}
use mathlib.Core.Bool.{Bool, true, false, not}
use mathlib.Core.List.{List}
use native.Mathlib.Decide.{ℕ_discrete, dec_lt}
use native.Mathlib.Omega.{arith}
use lib.ListN.{length, get_or, set, replicate, length-set, length-replicate, get_or-replicate, get_or-eq_default}
use lib.Seq.{get_or-set_same, get_or-set_other}
use Rattle.layout.specs.Bytes.{Bytes}
use Rattle.layout.specs.Parser.{ok, next, Parser}
use Rattle.layout.specs.code.Answers.{moved_of}
use Rattle.layout.specs.declared.cursor.Cursor.{Cursor}
use Rattle.layout.specs.declared.cursor.Moved.{Moved}
use Rattle.layout.proofs.Ways.{clash, moved_to, to-pure}
use Rattle.layout.proofs.View.{next-ok}
use Rattle.plan.specs.Selector.{Selector, Selectors, snil, scons}
use Rattle.plan.specs.Read.{constant_rest, selector, selectors}
use Rattle.plan.specs.code.Skips.{RestEnds, PassTo, Skips, SkipIs}
use Rattle.plan.specs.declared.skips.Skip.{Skip}
use Rattle.plan.proofs.Deeper.{selectors-deeper}
use Rattle.plan.proofs.Moves.{Passing}

pub told : (b : Bool) → not b ≡ false → b ≡ true
told true e = refl
told false e = clash (cc)

-- ---- passing over selectors

-- the first of them
first : (p : Parser Selector) (s : Bytes) (n at : ℕ) {x : Selector} {i : ℕ} → p s at ≡ ok x i → moved_of (selectors p (suc n) s at) ≡ moved_of (selectors p n s i)
unfolding selectors next
first p s n at {x} {i} a = rw a (sym (to-pure (scons x) (selectors p n s i) refl))

-- n selectors, then k more
after : (p : Parser Selector) (s : Bytes) (n k from : ℕ) {xs : Selectors} {m : ℕ} → selectors p n s from ≡ ok xs m → moved_of (selectors p (n + k) s from) ≡
    moved_of (selectors p k s m)
unfolding selectors
after p s zero k from {m = m} h =
    let e : from ≡ m = cc in
    let z : 0 + k ≡ k = omega arith in
    ap (λ (j : ℕ). moved_of (selectors p j s from)) z ∙ ap (λ (o : ℕ). moved_of (selectors p k s o)) e
after p s (suc n) k from {m = m} h =
    let (x, i, a, b) = next-ok _ _ h in
    let (ys, j, a₁, b₁) = next-ok _ _ b in
    let e : j ≡ m = cc in
    let z : suc n + k ≡ suc (n + k) = omega arith in
    ap (λ (l : ℕ). moved_of (selectors p l s from)) z ∙ first p s (n + k) from a ∙ after p s n k i a₁ ∙ ap (λ (o : ℕ). moved_of (selectors p k s o)) e

-- one is a selector
one : (p : Parser Selector) (s : Bytes) (at : ℕ) → moved_of (p s at) ≡ moved_of (selectors p 1 s at)
unfolding selectors next
one p s at = to-pure (λ (x : Selector). scons x snil) (p s at) refl

module _ {d : ℕ} {s : Bytes} where
  passed : {from n to : ℕ} → PassTo d s from n to → (xs : Selectors) × (selectors (selector d) n s from ≡ ok xs to)
  passed {from} {n} P = moved_to (selectors (selector d) n s from) refl P.reads

  pub pass-none : (at : ℕ) → PassTo d s at 0 at
  unfolding selectors moved_of
  pass-none at = record { reads = refl }

  pub pass-one : {at : ℕ} {e : Cursor} → Moved.To e ≡ moved_of (selector d s at) → PassTo d s at 1 e.at
  pass-one {at} h = record { reads = sym (h ∙ one (selector d) s at) }

  pub pass-read : {at : ℕ} {r : Moved} {e : Cursor} → r ≡ moved_of (selector d s at) → r ≡ Moved.To e → PassTo d s at 1 e.at
  pass-read f g = pass-one (sym g ∙ f)

  pub pass-first : {at to : ℕ} → PassTo d s at 1 to → Moved.To (record { at = to }) ≡ moved_of (selector d s at)
  pass-first {at} P = sym (one (selector d) s at ∙ P.reads)

  pub pass-more : {from n at : ℕ} {e : Cursor} → PassTo d s from n at → Moved.To e ≡ moved_of (selector d s at) → PassTo d s from (n + 1) e.at
  pass-more {from} {n} {at} P h = record { reads = after (selector d) s n 1 from (passed P).1 ∙ sym (h ∙ one (selector d) s at) }

  -- so many of those that are left
  pub passing_skip : {n from i at j to : ℕ} → Passing (selector d) s n from i at → PassTo d s at j to → j ≤ n - i → i < n → Passing (selector d) s n from (i
      + j) to
  passing_skip {n} {from} {i} {at} {j} {to} a P l h = record {
    within = let w = a.within in omega arith;
    rest = a.rest ∙ ap (λ (k : ℕ). moved_of (selectors (selector d) k s at)) (let e : n - i ≡ j + (n - (i + j)) = omega arith in e) ∙ after (selector d) s j
        (n - (i + j)) at (passed P).1;
  }

-- what reads with fewer levels
pub pass-deeper : {d : ℕ} {s : Bytes} {from n to : ℕ} → d ≤ 64 → PassTo d s from n to → PassTo 64 s from n to
unfolding moved_of
pass-deeper {d} {s} {from} {n} {to} l P = let q = passed P in record { reads = rw (selectors-deeper s d 64 l n from q.0 to q.1) }

-- ---- the table

pass_as : {d : ℕ} {s : Bytes} {a b n m e f : ℕ} → a ≡ b → n ≡ m → e ≡ f → PassTo d s a n e → PassTo d s b m f
pass_as {d} {s} {a} {b} {n} {m} {e} {f} p q r P = subst (λ (x : ℕ). PassTo d s x m f) p
    (subst (λ (x : ℕ). PassTo d s a x f) q (subst (λ (x : ℕ). PassTo d s a n x) r P))

rest_as : {s : Bytes} {at to e f : ℕ} → at ≡ to → e ≡ f → RestEnds s at e → RestEnds s to f
rest_as {s} {at} {to} {e} {f} p q R = subst (λ (b : ℕ). RestEnds s b f) p (subst (λ (k : ℕ). RestEnds s at k) q R)

zero-entry : (n i : ℕ) → ◌≡◌ {A = ℕ} (get_or (replicate n 0) i 0) 0
zero-entry n i = go (dec_lt i n)
  where
    zeros : List ℕ
    zeros = replicate n 0

    go : Dec (i < n) → get_or zeros i 0 ≡ 0
    go (yes lt) = get_or-replicate {A = ℕ} n i 0 0 lt
    go (no ge) = get_or-eq_default zeros 0 (let l : length zeros ≡ n = length-replicate {A = ℕ} n 0 in omega arith)

-- three numbers written
pub length-written : (t : List ℕ) (i x j y k z : ℕ) → length (set (set (set t i x) j y) k z) ≡ length t
length-written t i x j y k z = length-set (set (set t i x) j y) k z ∙ length-set (set t i x) j y ∙ length-set t i x

-- two numbers written
pub length_two : (t : List ℕ) (i x j y : ℕ) → length (set (set t i x) j y) ≡ length t
length_two t i x j y = length-set (set t i x) j y ∙ length-set t i x

-- no entry
pub skips-none : {s : Bytes} (n : ℕ) → Skips s (replicate n 0)
skips-none n = record {
  constants = λ i l z. absurd (z (zero-entry n (2 * i + 1)));
  right = λ i l z. absurd (z (zero-entry n (2305 + 3 * i)));
}

pub skip-none : {s : Bytes} {at most : ℕ} {r : Skip} → r.count ≡ 0 → SkipIs s at most r
skip-none e = record { few = omega arith; right = λ z. absurd (z e) }

module _ {s : Bytes} {t : List ℕ} (T : Skips s t) where
  pub constant-found : (at i : ℕ) {n : ℕ} → i ≡ at / 128 * 2 → at < 65536 → get_or t i 0 ≡ at → n ≡ get_or t (i + 1) 0 → (n ≡ 0 → ⊥) → RestEnds s at (at + n)
  constant-found at i {n} e l g h z =
      let j : ℕ = at / 128 in
      let p : i ≡ 2 * j = omega arith in
      let a : get_or t (2 * j) 0 ≡ at = ap (λ (k : ℕ). get_or t k 0) (sym p) ∙ g in
      let m : get_or t (2 * j + 1) 0 ≡ n = ap (λ (k : ℕ). get_or t (k + 1) 0) (sym p) ∙ sym h in
      rest_as a (ap₂ ◌+◌ a m) (T.constants j (omega arith) (λ q. z (sym m ∙ q)))

  pub skip-found : (i k : ℕ) {at most count to : ℕ} → k ≡ 2301 + 3 * i → (i ≡ 0 → ⊥) → i ≤ 767 → get_or t k 0 ≡ at → count ≡ get_or t (k + 1) 0
      → to ≡ get_or t (k + 2) 0 → count ≤ most → SkipIs s at most (record { count = count; to = to })
  skip-found i k e z l f g h m =
      let j : ℕ = i - 1 in
      let a : k ≡ 2304 + 3 * j = omega arith in
      let b : k + 1 ≡ 2305 + 3 * j = omega arith in
      let c : k + 2 ≡ 2306 + 3 * j = omega arith in
      let n : get_or t (2305 + 3 * j) 0 ≡ _ = ap (λ (x : ℕ). get_or t x 0) (sym b) ∙ sym g in
      record {
        few = m;
        right = λ y. pass_as (ap (λ (x : ℕ). get_or t x 0) (sym a) ∙ f) n (ap (λ (x : ℕ). get_or t x 0) (sym c) ∙ sym h)
            (T.right j (omega arith) (λ q. y (sym n ∙ q)));
      }

  -- the constants of another table of the same pairs
  same-constants : (w : List ℕ) → ((k : ℕ) → k < 1024 → get_or t k 0 ≡ get_or w k 0) → (i : ℕ) → i < 512 → (get_or w (2 * i + 1) 0 ≡ 0 → ⊥)
      → RestEnds s (get_or w (2 * i) 0) (get_or w (2 * i) 0 + get_or w (2 * i + 1) 0)
  same-constants w same i b z =
      let a = same (2 * i) (omega arith) in
      let m = same (2 * i + 1) (omega arith) in
      rest_as a (ap₂ ◌+◌ a m) (T.constants i b (λ q. z (sym m ∙ q)))

  -- the selectors of another table of the same entries
  same-selectors : (w : List ℕ) → ((k : ℕ) → 2304 ≤ k → k < 4605 → get_or t k 0 ≡ get_or w k 0) → (i : ℕ) → i < 767 → (get_or w (2305 + 3 * i) 0 ≡ 0 → ⊥)
      → PassTo 64 s (get_or w (2304 + 3 * i) 0) (get_or w (2305 + 3 * i) 0) (get_or w (2306 + 3 * i) 0)
  same-selectors w same i b z =
      let n = same (2305 + 3 * i) (omega arith) (omega arith) in
      pass_as (same (2304 + 3 * i) (omega arith) (omega arith)) n (same (2306 + 3 * i) (omega arith) (omega arith)) (T.right i b (λ q. z (sym n ∙ q)))

  -- another table of the same entries
  pub skips-same : {w : List ℕ} → ((k : ℕ) → k < 4608 → get_or t k 0 ≡ get_or w k 0) → Skips s w
  skips-same {w} same = record { constants = same-constants w (λ k l. same k (omega arith)); right = same-selectors w (λ k g l. same k (omega arith)) }

  -- a number that is in no entry
  pub skips-low : (k x : ℕ) → 1024 ≤ k → k < 2304 → Skips s (set t k x)
  skips-low k x g l = record {
    constants = same-constants (set t k x) (λ j b. sym (get_or-set_other t k j x 0 (λ e. omega arith)));
    right = same-selectors (set t k x) (λ j h b. sym (get_or-set_other t k j x 0 (λ e. omega arith)));
  }

  pub skips_high : (k x : ℕ) → 4605 ≤ k → Skips s (set t k x)
  skips_high k x g = record {
    constants = same-constants (set t k x) (λ j b. sym (get_or-set_other t k j x 0 (λ e. omega arith)));
    right = same-selectors (set t k x) (λ j h b. sym (get_or-set_other t k j x 0 (λ e. omega arith)));
  }

  -- a constant
  pub constant-kept : (at i n : ℕ) {e : ℕ} → i ≡ at / 128 * 2 → at < 65536 → i + 1 < length t → at + n ≡ e → RestEnds s at e → Skips s
      (set (set t i at) (i + 1) n)
  constant-kept at i n {e} q l b f R = record {
    constants = λ j r z. go j r z (ℕ_discrete i (2 * j));
    right = same-selectors w (λ k g r. kept k (λ x. omega arith) (λ x. omega arith));
  }
    where
      u : List ℕ
      u = set t i at

      w : List ℕ
      w = set u (i + 1) n

      start : at ≡ get_or w i 0
      start = sym (get_or-set_other u (i + 1) i n 0 (λ x. omega arith) ∙ get_or-set_same t i at 0 (omega arith))

      size : n ≡ get_or w (i + 1) 0
      size = sym (get_or-set_same u (i + 1) n 0 (let x = length-set t i at in omega arith))

      kept : (k : ℕ) → (k ≡ i → ⊥) → (k ≡ i + 1 → ⊥) → get_or t k 0 ≡ get_or w k 0
      kept k x y = sym (get_or-set_other u (i + 1) k n 0 y ∙ get_or-set_other t i k at 0 x)

      go : (j : ℕ) → j < 512 → (get_or w (2 * j + 1) 0 ≡ 0 → ⊥) → Dec (i ≡ 2 * j) → RestEnds s (get_or w (2 * j) 0) (get_or w (2 * j) 0 + get_or w (2 * j + 1) 0)
      go j r z (yes p) =
          let a : at ≡ get_or w (2 * j) 0 = start ∙ ap (λ (k : ℕ). get_or w k 0) p in
          let m : n ≡ get_or w (2 * j + 1) 0 = size ∙ ap (λ (k : ℕ). get_or w (k + 1) 0) p in
          rest_as a (sym f ∙ ap₂ ◌+◌ a m) R
      go j r z (no p) =
          let a : get_or t (2 * j) 0 ≡ get_or w (2 * j) 0 = kept (2 * j) (λ x. p (sym x)) (λ x. omega arith) in
          let m : get_or t (2 * j + 1) 0 ≡ get_or w (2 * j + 1) 0 = kept (2 * j + 1) (λ x. omega arith) (λ x. p (omega arith)) in
          rest_as a (ap₂ ◌+◌ a m) (T.constants j r (λ x. z (sym m ∙ x)))

  -- an entry
  pub skips-put : (i k from count to : ℕ) → k ≡ 2304 + 3 * i → k + 2 < length t → PassTo 64 s from count to → Skips s
      (set (set (set t k from) (k + 1) count) (k + 2) to)
  skips-put i k from count to e l P = record {
    constants = same-constants w (λ j b. kept j (λ x. omega arith) (λ x. omega arith) (λ x. omega arith));
    right = λ j b z. go j b z (ℕ_discrete i j);
  }
    where
      u : List ℕ
      u = set t k from

      v : List ℕ
      v = set u (k + 1) count

      w : List ℕ
      w = set v (k + 2) to

      kept : (j : ℕ) → (j ≡ k → ⊥) → (j ≡ k + 1 → ⊥) → (j ≡ k + 2 → ⊥) → get_or t j 0 ≡ get_or w j 0
      kept j x y z = sym (get_or-set_other v (k + 2) j to 0 z ∙ get_or-set_other u (k + 1) j count 0 y ∙ get_or-set_other t k j from 0 x)

      start : from ≡ get_or w k 0
      start = sym (get_or-set_other v (k + 2) k to 0 (λ q. omega arith) ∙ get_or-set_other u (k + 1) k count 0 (λ q. omega arith) ∙ get_or-set_same t k from 0
          (omega arith))

      number : count ≡ get_or w (k + 1) 0
      number = sym (get_or-set_other v (k + 2) (k + 1) to 0 (λ q. omega arith) ∙ get_or-set_same u (k + 1) count 0 (let x = length-set t k from in omega arith))

      end : to ≡ get_or w (k + 2) 0
      end = sym (get_or-set_same v (k + 2) to 0 (let x = length-set t k from in let y = length-set u (k + 1) count in omega arith))

      go : (j : ℕ) → j < 767 → (get_or w (2305 + 3 * j) 0 ≡ 0 → ⊥) → Dec (i ≡ j) → PassTo 64 s (get_or w (2304 + 3 * j) 0) (get_or w (2305 + 3 * j) 0)
          (get_or w (2306 + 3 * j) 0)
      go j b z (yes q) =
          let f : k ≡ 2304 + 3 * j = omega arith in
          let g : k + 1 ≡ 2305 + 3 * j = omega arith in
          let h : k + 2 ≡ 2306 + 3 * j = omega arith in
          pass_as (start ∙ ap (λ (x : ℕ). get_or w x 0) f) (number ∙ ap (λ (x : ℕ). get_or w x 0) g) (end ∙ ap (λ (x : ℕ). get_or w x 0) h) P
      go j b z (no q) =
          let n = kept (2305 + 3 * j) (λ x. omega arith) (λ x. q (omega arith)) (λ x. omega arith) in
          pass_as (kept (2304 + 3 * j) (λ x. q (omega arith)) (λ x. omega arith) (λ x. omega arith)) n
          (kept (2306 + 3 * j) (λ x. omega arith) (λ x. omega arith) (λ x. q (omega arith))) (T.right j b (λ x. z (sym n ∙ x)))

-- one selector is known
pub skip-one : {s : Bytes} {at : ℕ} {r : Skip} → SkipIs s at 1 r → (r.count ≡ 0 → ⊥) → Moved.To (record { at = r.to }) ≡ moved_of (selector 64 s at)
skip-one {r = r} K z =
    let few = K.few in
    let n : r.count ≡ 1 = omega arith in
    pass-first (pass_as refl n refl (K.right z))

-- what was read
pub constant-known : {s : Bytes} {at e : ℕ} → RestEnds s at e → Moved.To (record { at = e }) ≡ moved_of (constant_rest s at)
constant-known R = sym R.reads

pub constant-read : {s : Bytes} {at : ℕ} {r : Moved} {d : Cursor} → r ≡ moved_of (constant_rest s at) → r ≡ Moved.To d → RestEnds s at d.at
constant-read e f = record { reads = sym e ∙ f }
