-- A value through casts, from the innermost outward. Assumes nothing.
use Prim.Native.Nat.{ℕ, zero, suc, ◌+◌, ◌-◌, ◌<◌, ◌≤◌}
use mathlib.Core.Path.{◌≡◌, refl, ap, sym, subst, ◌∙◌}
use mathlib.Core.Bool.{false}
use mathlib.Core.List.{List, [], ◌∷◌}
use native.Mathlib.Omega.{arith}
use native.Mathlib.Nat.{add-zero}
use lib.ListN.{length, get_or, take}
use lib.Seq.{take_all}
use Rattle.layout.specs.Bytes.{Bytes}
use Rattle.layout.specs.declared.leaf.Leaf.{Leaf}
use Rattle.layout.specs.declared.leaf.Leaf.TheVariants.{Null}
use Rattle.store.specs.code.Overlay.{overlay}
use Rattle.values.specs.Value.{Value, vnumber, voverflow}
use Rattle.values.specs.Encode.{encode_value}
use Rattle.plan.specs.Convert.{convert}
use Rattle.plan.specs.Run.{cast_leaf}
use Rattle.convert.specs.code.Converted.{value_of}
use Rattle.convert.specs.declared.leaf.Converted.{Converted}
use Rattle.raw.specs.code.Number.{is_number, LeafAnswer, LeafIs}
use Rattle.raw.specs.code.Stored.{Stores}
use Rattle.raw.specs.declared.leaf.LeafValue.{LeafValue}
use Rattle.raw.proofs.Storing.{cast-kept, stores_as}
use Rattle.output.specs.code.Chain.{cast_all, Kept, Casting}
use Rattle.output.specs.code.Answers.{cast_value_of, cast_leaf_of}
use Rattle.output.specs.declared.leaf.CastLeaf.{CastLeaf}
use Rattle.output.specs.declared.leaf.CastValue.{CastValue}

-- ---- what no cast changes

pub casts-kept : (ks : List Leaf) (v : Value) → is_number v ≡ false → cast_all ks v ≡ v
unfolding cast_all
casts-kept [] v e = refl
casts-kept (k ∷ ks) v e = ap (cast_leaf k) (casts-kept ks v e) ∙ cast-kept k v e

no_casts : (ks : List Leaf) (v : Value) → length ks ≡ 0 → cast_all ks v ≡ v
unfolding cast_all
no_casts [] v e = refl
no_casts (k ∷ ks) v e = absurd (omega arith)

-- ---- one cast after another

first-casts : (ks : List Leaf) (i : ℕ) (v : Value) → i < length ks → cast_all (take (suc i) ks) v ≡ cast_all (take i ks) (cast_leaf (get_or ks i Null) v)
unfolding cast_all
first-casts [] i v h = absurd (omega arith)
first-casts (k ∷ ks) zero v h = refl
first-casts (k ∷ ks) (suc i) v h = ap (cast_leaf k) (first-casts ks i v (omega arith))

pub casting_none : (ks : List Leaf) (v : Value) {i : ℕ} → length ks ≡ i → Casting ks v i v
casting_none ks v {i} e = record { within = omega arith; same = ap (λ (l : List Leaf). cast_all l v) (sym (take_all i ks (omega arith))) }

module _ {ks : List Leaf} {v₀ : Value} {i : ℕ} {k : Leaf} {x : ℕ} (C : Casting ks v₀ i (vnumber k x)) where
  pub casting_more : 0 < i → i - 1 < length ks
  casting_more h = omega (arith, C.within)

  module _ (h : 0 < i) {to : Leaf} (e : to ≡ get_or ks (i - 1) Null) (r : Converted) (f : value_of to r ≡ convert k to x) where
    stepped : cast_all ks v₀ ≡ cast_all (take (i - 1) ks) (value_of to r)
    unfolding cast_leaf
    stepped =
        let z : i ≡ suc (i - 1) = omega arith in
        C.same ∙ ap (λ (j : ℕ). cast_all (take j ks) (vnumber k x)) z ∙ first-casts ks (i - 1) (vnumber k x) (casting_more h)
        ∙ ap (λ (l : Leaf). cast_all (take (i - 1) ks) (cast_leaf l (vnumber k x))) (sym e) ∙ ap (cast_all (take (i - 1) ks)) (sym f)

    pub casting_number : {m : ℕ} → r ≡ Converted.Number m → Casting ks v₀ (i - 1) (vnumber to m)
    casting_number g = record { within = omega (arith, C.within); same = stepped ∙ ap (λ (q : Converted). cast_all (take (i - 1) ks) (value_of to q)) g }

    -- nothing changes it any more
    pub casting_overflow : r ≡ Converted.Overflow → {j : ℕ} → j ≤ i → Casting ks v₀ j voverflow
    unfolding is_number
    casting_overflow g {j} l = record {
      within = omega (arith, C.within);
      same =
          stepped ∙ ap (λ (q : Converted). cast_all (take (i - 1) ks) (value_of to q)) g ∙ casts-kept (take (i - 1) ks) voverflow refl
          ∙ sym (casts-kept (take j ks) voverflow refl);
    }

  pub casting_all : i ≤ 0 → vnumber k x ≡ cast_all ks v₀
  casting_all h = sym (C.same ∙ no_casts (take i ks) (vnumber k x) (short (i) h ks))
    where
      short : (j : ℕ) → j ≤ 0 → (l : List Leaf) → length (take j l) ≡ 0
      short zero h l = refl
      short (suc j) h l = absurd (omega arith)

pub casting_to : {ks : List Leaf} {v₀ : Value} {i j : ℕ} {v : Value} → i ≡ j → Casting ks v₀ i v → Casting ks v₀ j v
casting_to {ks} {v = v} e C = record { within = omega (arith, C.within); same = C.same ∙ ap (λ (n : ℕ). cast_all (take n ks) v) e }

-- the last casts of the first i, whose kinds are kept: m of them were done
module _ {ks : List Leaf} {v₀ : Value} {i m : ℕ} {kinds : List Leaf} {k : Leaf} {x count : ℕ} (K : Kept ks i 0 kinds)
    (C : Casting ks v₀ (i - m) (vnumber k x)) (h : count ≤ i) where
  pub block_all : m ≤ count → count ≤ m → Casting ks v₀ (i - count) (vnumber k x)
  block_all a b = casting_to (omega arith) C

  module _ (b : count ≤ 1024) (l : m < count) (r : Converted) (f : value_of (get_or kinds m Null) r ≡ convert k (get_or kinds m Null) x) where
    kind-is : get_or kinds m Null ≡ get_or ks (i - m - 1) Null
    kind-is = let q : i - 1 - m ≡ i - m - 1 = omega arith in K.right m (omega arith) (omega arith) (omega arith) ∙ ap (λ (j : ℕ). get_or ks j Null) q

    pub block_number : {y : ℕ} → r ≡ Converted.Number y → Casting ks v₀ (i - (m + 1)) (vnumber (get_or kinds m Null) y)
    block_number g = casting_to (omega arith) (casting_number C (omega arith) kind-is r f g)

    pub block_overflow : r ≡ Converted.Overflow → Casting ks v₀ (i - count) voverflow
    block_overflow g = casting_overflow C (omega arith) kind-is r f g (omega arith)

module _ {ks : List Leaf} {v₀ : Value} {i : ℕ} {r : CastValue} (C : Casting ks v₀ i (cast_value_of r)) where
  pub cast_number : {k : Leaf} {x : ℕ} → r ≡ CastValue.Number k x → Casting ks v₀ i (vnumber k x)
  cast_number e = record { within = C.within; same = C.same ∙ ap (λ (q : CastValue). cast_all (take i ks) (cast_value_of q)) e }

  pub cast-overflow : r ≡ CastValue.Overflow → cast_value_of CastValue.Overflow ≡ cast_all ks v₀
  unfolding is_number
  cast-overflow e = sym (C.same ∙ ap (λ (q : CastValue). cast_all (take i ks) (cast_value_of q)) e ∙ casts-kept (take i ks) voverflow refl)

-- ---- what is stored

pub stores-number : (out : Bytes) (k : ℕ) {j : Leaf} {m : ℕ} {u : Value} {q : CastValue} → cast_value_of q ≡ u → q ≡ CastValue.Number j m
    → {l : ℕ} {new : Bytes} → l ≡ length (encode_value (vnumber j m)) → new ≡ overlay out k (encode_value (vnumber j m)) → Stores out k (encode_value u)
    (k + l) new
stores-number out k e f g h = stores_as (ap cast_value_of (sym f) ∙ e) (record { ends = ap (λ (i : ℕ). k + i) g; stored = h })

pub stores-overflow : (out : Bytes) (k : ℕ) {u : Value} {q : CastValue} → cast_value_of q ≡ u → q ≡ CastValue.Overflow → Stores out k (encode_value u) k out
unfolding encode_value overlay
stores-overflow out k e f = stores_as (ap cast_value_of (sym f) ∙ e) (record { ends = sym (add-zero k); stored = refl })

pub stores_uncast : {out : Bytes} {k : ℕ} (v : Value) {r : ℕ} {new : Bytes} (ks : List Leaf) → Stores out k (encode_value v) r new → length ks ≡ 0
    → Stores out k (encode_value (cast_all ks v)) r new
stores_uncast v ks S e = stores_as (sym (no_casts ks v e)) S

module _ {out : Bytes} {k : ℕ} (v : Value) {r : ℕ} {new : Bytes} {q : CastLeaf} where
  pub stores_same : Stores out k (encode_value v) r new → q ≡ CastLeaf.Same → Stores out k (encode_value (cast_leaf_of v q)) r new
  stores_same S e = stores_as (ap (cast_leaf_of v) (sym e)) S

  pub stores-cast : {x : CastValue} → Stores out k (encode_value (cast_value_of x)) r new → q ≡ CastLeaf.Cast x → Stores out k (encode_value (cast_leaf_of v q)) r new
  stores-cast S e = stores_as (ap (cast_leaf_of v) (sym e)) S

-- ---- what casts leave

pub left_uncast : (ks : List Leaf) (v : Value) → length ks ≡ 0 → v ≡ cast_all ks v
left_uncast ks v e = sym (no_casts ks v e)

module _ (ks : List Leaf) {v : Value} {q : LeafValue} (L : LeafIs v q) where
  pub left_other : q ≡ LeafValue.Other → v ≡ cast_all ks v
  left_other e = sym (casts-kept ks v (subst (λ (q : LeafValue). LeafAnswer v q) e L.answer))

  pub left-cast : {j : Leaf} {n : ℕ} → q ≡ LeafValue.Number j n → {x : Value} → x ≡ cast_all ks (vnumber j n) → x ≡ cast_all ks v
  left-cast e f = f ∙ ap (cast_all ks) (sym (subst (λ (q : LeafValue). LeafAnswer v q) e L.answer))
