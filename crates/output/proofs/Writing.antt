-- Bytes that are written one after another, up to the limit. Assumes nothing.
use Prim.Native.Nat.{ℕ, zero, suc, ◌+◌, ◌<◌, ◌≤◌}
use mathlib.Core.Path.{◌≡◌, refl, ap, sym, subst, ◌∙◌}
use mathlib.Core.Bool.{true}
use mathlib.Core.List.{[], ◌++◌, append-nil, append_assoc}
use native.Mathlib.Omega.{arith}
use native.Mathlib.Decide.{dec_lt}
use lib.ListN.{length, length-append}
use Rattle.layout.specs.Bytes.{Bytes}
use Rattle.store.specs.code.Overlay.{overlay, Holds}
use Rattle.store.proofs.Overlay.{length-overlay}
use Rattle.store.proofs.Holds.{holds_exact, holds-append}
use Rattle.values.specs.Value.{Value, vnull, vnumber, vtext, voverflow, vstruct, vlist, varray, Values, vnil, vcons, count_values}
use Rattle.values.specs.Encode.{encode_value, encode_values}
use Rattle.values.specs.Record.{longest}
use Rattle.plan.specs.Run.{value_at, clean, clean_all_of}
use Rattle.plan.specs.Reach.{parts}
use Rattle.plan.proofs.Results.{true≠false, both}
use Rattle.output.specs.code.Output.{Emits, levels, levels_all}

pub emits_exact : (out : Bytes) (k : ℕ) (b : Bytes) {r : ℕ} {new : Bytes} → r ≡ k + length b → new ≡ overlay out k b → Emits out k b r new
emits_exact out k b e n = record { fits = λ h. (e, holds_exact out k b n); exceeds = λ h. omega arith }

-- what was written did not pass the limit
pub within_limit : {out : Bytes} {k : ℕ} {b : Bytes} {r : ℕ} {o : Bytes} → Emits out k b r o → r ≤ longest → k + length b ≤ longest
within_limit {k = k} {b = b} {r = r} E h = go (dec_lt longest (k + length b))
  where
    go : Dec (longest < k + length b) → k + length b ≤ longest
    go (yes i) = absurd (omega (arith, E.exceeds i))
    go (no i) = omega arith

pub emits-append : {out : Bytes} {k : ℕ} {xs : Bytes} {r : ℕ} {o : Bytes} {ys : Bytes} {r' : ℕ} {o' : Bytes}
    → length o ≡ length out → Emits out k xs r o → r ≤ longest → Emits o r ys r' o' → Emits out k (xs ++ ys) r' o'
emits-append {out} {k} {xs} {r} {o} {ys} {r'} {o'} l E h F =
    let i = within_limit E h in
    let (e, H) = E.fits i in
    let n : length (xs ++ ys) ≡ length xs + length ys = length-append xs ys in
    record {
      fits = λ g. let (f, K) = F.fits (omega arith) in (omega (arith, f, e, n), holds-append out k xs ys o o' l H (subst (λ (j : ℕ). Holds o j ys o') e K));
      exceeds = λ g. F.exceeds (omega arith);
    }

-- past the limit nothing more counts
pub emits-past : {out : Bytes} {k : ℕ} {xs : Bytes} {r : ℕ} {o : Bytes} (ys : Bytes) → Emits out k xs r o → longest < r → Emits out k (xs ++ ys) r o
emits-past {out} {k} {xs} {r} {o} ys E h =
    let n : length (xs ++ ys) ≡ length xs + length ys = length-append xs ys in
    record { fits = λ g. let (e, H) = E.fits (omega arith) in absurd (omega arith); exceeds = λ g. h }

-- after bytes that were written whole
pub emits-after : (out : Bytes) (k : ℕ) (xs : Bytes) {o : Bytes} {ys : Bytes} {r : ℕ} {o' : Bytes}
    → o ≡ overlay out k xs → Emits o (k + length xs) ys r o' → Emits out k (xs ++ ys) r o'
emits-after out k xs {o} {ys} {r} {o'} e F =
    let l : length o ≡ length out = ap length e ∙ length-overlay out k xs in
    let n : length (xs ++ ys) ≡ length xs + length ys = length-append xs ys in
    record {
      fits = λ g. let (f, K) = F.fits (omega arith) in (omega (arith, f, n), holds-append out k xs ys o o' l (holds_exact out k xs e) K);
      exceeds = λ g. F.exceeds (omega arith);
    }

-- ---- the first values of a row

unfoldable pub front : Values → ℕ → Values
front vnil i = vnil
front (vcons v vs) zero = vnil
front (vcons v vs) (suc i) = vcons v (front vs i)

unfoldable pub behind : Values → ℕ → Values
behind vnil i = vnil
behind (vcons v vs) zero = vcons v vs
behind (vcons v vs) (suc i) = behind vs i

pub front_none : (vs : Values) → encode_values (front vs 0) ≡ []
unfolding front encode_values
front_none vnil = refl
front_none (vcons v vs) = refl

pub front_all : (vs : Values) (i : ℕ) → count_values vs ≤ i → front vs i ≡ vs
unfolding front count_values
front_all vnil i h = refl
front_all (vcons v vs) zero h = absurd (omega arith)
front_all (vcons v vs) (suc i) h = ap (vcons v) (front_all vs i (omega arith))

pub front_more : (vs : Values) (i : ℕ) → i < count_values vs → encode_values (front vs (suc i)) ≡ encode_values (front vs i) ++ encode_value (value_at vs i)
unfolding front count_values encode_values value_at
front_more vnil i h = absurd (omega arith)
front_more (vcons v vs) zero h = ap (λ (x : Bytes). encode_value v ++ x) (front_none vs) ∙ append-nil (encode_value v)
front_more (vcons v vs) (suc i) h = ap (λ (x : Bytes). encode_value v ++ x) (front_more vs i (omega arith)) ∙ sym
    (append_assoc (encode_value v) (encode_values (front vs i)) (encode_value (value_at vs i)))

pub front_behind : (vs : Values) (i : ℕ) → encode_values vs ≡ encode_values (front vs i) ++ encode_values (behind vs i)
unfolding front behind encode_values
front_behind vnil i = refl
front_behind (vcons v vs) zero = refl
front_behind (vcons v vs) (suc i) = ap (λ (x : Bytes). encode_value v ++ x) (front_behind vs i) ∙ sym
    (append_assoc (encode_value v) (encode_values (front vs i)) (encode_values (behind vs i)))

-- ---- what is clean, and how deep

-- what is clean has a byte at least
clean-some : (v : Value) → clean v ≡ true → 0 < length (encode_value v)
unfolding clean encode_value
clean-some vnull c = omega arith
clean-some (vnumber k n) c = omega arith
clean-some (vtext b) c = omega arith
clean-some voverflow c = true≠false c refl
clean-some (vstruct vs) c = omega arith
clean-some (vlist vs) c = omega arith
clean-some (varray vs) c = omega arith

pub front_long : (vs : Values) (i : ℕ) → clean_all_of vs ≡ true → i ≤ count_values vs → i ≤ length (encode_values (front vs i))
unfolding clean_all_of count_values front encode_values
front_long vnil i c h = omega arith
front_long (vcons v vs) zero c h = omega arith
front_long (vcons v vs) (suc i) c h =
    let (a, b) = both (clean v) c in
    let n : length (encode_value v ++ encode_values (front vs i)) ≡ length (encode_value v) + length (encode_values (front vs i)) = length-append
    (encode_value v) (encode_values (front vs i)) in
    omega (arith, n, clean-some v a, front_long vs i b (omega arith))

clean_at : (vs : Values) (i : ℕ) → clean_all_of vs ≡ true → clean (value_at vs i) ≡ true
unfolding clean clean_all_of value_at
clean_at vnil i c = refl
clean_at (vcons v vs) zero c = (both (clean v) c).0
clean_at (vcons v vs) (suc i) c = clean_at vs i (both (clean v) c).1

levels-at : (vs : Values) (i : ℕ) → levels (value_at vs i) ≤ levels_all vs
unfolding levels levels_all value_at
levels-at vnil i = omega arith
levels-at (vcons v vs) zero = omega arith
levels-at (vcons v vs) (suc i) = omega (arith, levels-at vs i)

pub parts-clean : (v : Value) → clean v ≡ true → clean_all_of (parts v) ≡ true
unfolding clean clean_all_of parts
parts-clean vnull c = refl
parts-clean (vnumber k n) c = refl
parts-clean (vtext b) c = refl
parts-clean voverflow c = refl
parts-clean (vstruct vs) c = c
parts-clean (vlist vs) c = c
parts-clean (varray vs) c = c

pub part-clean : (v : Value) (i : ℕ) → clean v ≡ true → clean (value_at (parts v) i) ≡ true
part-clean v i c = clean_at (parts v) i (parts-clean v c)

-- a part is less deep
pub part-levels : (v : Value) (i : ℕ) → i < count_values (parts v) → levels (value_at (parts v) i) + 1 ≤ levels v
unfolding levels parts count_values
part-levels vnull i h = absurd (omega arith)
part-levels (vnumber k n) i h = absurd (omega arith)
part-levels (vtext b) i h = absurd (omega arith)
part-levels voverflow i h = absurd (omega arith)
part-levels (vstruct vs) i h = omega (arith, levels-at vs i)
part-levels (vlist vs) i h = omega (arith, levels-at vs i)
part-levels (varray vs) i h = omega (arith, levels-at vs i)
