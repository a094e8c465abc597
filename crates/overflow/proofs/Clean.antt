-- A value has an overflow just where a path to a date-time leaf of its type has one among its nodes. Assumes nothing.
use Prim.Native.Nat.{ℕ, zero, suc, ◌^◌, ◌<◌}
use mathlib.Core.Path.{◌≡◌, refl, ◌∙◌}
use mathlib.Core.Bool.{Bool, true, false, not, ◌||◌, ◌&&◌}
use mathlib.Core.List.{List, [], ◌∷◌}
use borrow.Author.Tests.{lt-leb}
use lib.IntN.{ℤ, pos, negsuc}
use lib.Signed.{mag}
use Rattle.layout.specs.Bytes.{Bytes}
use Rattle.layout.specs.Tree.{LeafType, leaf_of, DataType, leaf, struct, list, array, Fields, fnil, fcons}
use Rattle.layout.specs.declared.leaf.TimeUnit.{TimeUnit}
use Rattle.layout.specs.declared.leaf.TimeUnit.TheVariants.{Nanoseconds, Microseconds, Milliseconds}
use Rattle.layout.specs.declared.leaf.Leaf.{Leaf}
use Rattle.layout.proofs.Ways.{clash}
use Rattle.rules.specs.Classes.{is_datetime}
use Rattle.rules.proofs.OfClass.{datetime-leaf}
use Rattle.numeric.specs.Integers.{signed}
use Rattle.numeric.proofs.TwosComplement.{signed-mag}
use Rattle.values.specs.Value.{Value, vnull, vnumber, vtext, voverflow, vstruct, Values, vnil, vcons}
use Rattle.plan.specs.Convert.{keep, unit_change}
use Rattle.plan.specs.Run.{value_at, clean, clean_all_of}
use Rattle.plan.specs.code.Fits.{FitsOver, over-null, over-number, over-text, over-datetime, over-struct, over-list, over-array, FitsAllOver, over_nil}
use Rattle.plan.specs.code.Fits.{over_cons, FitsEachOver, over_none, over-more}
use Rattle.overflow.specs.declared.want.Timed.{Timed}
use Rattle.overflow.specs.declared.want.Timed.TheVariants.{In, Never}
use Rattle.overflow.specs.code.Want.{time_of, outside, widest, overflowing, bounds_before, count_beyond, is_beyond, is_struct, is_filled, meets}
use Rattle.overflow.specs.code.Some.{any_of, some_part, some}
use Rattle.overflow.specs.code.Leaves.{at_leaf, leaves, leaves_from}
use Rattle.overflow.specs.declared.want.Want.{Want}
use Rattle.overflow.specs.declared.want.Want.TheVariants.{Parts, Element, Beyond}

or_swap : (a b c d : Bool) → ((a || b) || (c || d)) ≡ ((a || c) || (b || d))
or_swap true b c d = refl
or_swap false true true d = refl
or_swap false false true d = refl
or_swap false true false d = refl
or_swap false false false d = refl

or_not : (a b : Bool) → (not a || not b) ≡ not (a && b)
or_not true b = refl
or_not false b = refl

pub meets-null : (w : Want) → meets w vnull ≡ false
unfolding meets is_beyond is_struct is_filled
meets-null Parts = refl
meets-null Element = refl
meets-null (Beyond d u) = refl

pub some-null : (w : Want) (p : List ℕ) → some w p vnull ≡ false
unfolding some some_part
some-null w [] = meets-null w
some-null w (k ∷ p) = refl

-- ---- paths to nothing, and to one thing or another

at_none : (k : Timed) → at_leaf k (λ p u. false) ≡ false
unfolding at_leaf
at_none Never = refl
at_none (In u) = refl

at_or : (k : Timed) (f g : List ℕ → TimeUnit → Bool) → at_leaf k (λ p u. f p u || g p u) ≡ (at_leaf k f || at_leaf k g)
unfolding at_leaf
at_or Never f g = refl
at_or (In u) f g = refl

mutual
  unfolding leaves leaves_from

  leaves_none : (t : DataType) → leaves t (λ p u. false) ≡ false
  leaves_none (leaf l) = at_none (time_of (leaf_of l))
  leaves_none (struct fs) = from-none fs 0
  leaves_none (list t) = leaves_none t
  leaves_none (array w t) = leaves_none t

  from-none : (fs : Fields) (k : ℕ) → leaves_from fs k (λ p u. false) ≡ false
  from-none fnil k = refl
  from-none (fcons n t fs) k = rw (leaves_none t) (from-none fs (suc k))

mutual
  unfolding leaves leaves_from

  leaves_or : (t : DataType) (f g : List ℕ → TimeUnit → Bool) → leaves t (λ p u. f p u || g p u) ≡ (leaves t f || leaves t g)
  leaves_or (leaf l) f g = at_or (time_of (leaf_of l)) f g
  leaves_or (struct fs) f g = from_or fs 0 f g
  leaves_or (list t) f g = leaves_or t (λ p u. f (0 ∷ p) u) (λ p u. g (0 ∷ p) u)
  leaves_or (array w t) f g = leaves_or t (λ p u. f (0 ∷ p) u) (λ p u. g (0 ∷ p) u)

  from_or : (fs : Fields) (k : ℕ) (f g : List ℕ → TimeUnit → Bool) → leaves_from fs k (λ p u. f p u || g p u) ≡ (leaves_from fs k f || leaves_from fs k g)
  from_or fnil k f g = refl
  from_or (fcons n t fs) k f g =
      rw (leaves_or t (λ p u. f (k ∷ p) u) (λ p u. g (k ∷ p) u), from_or fs (suc k) f g)
      (or_swap (leaves t (λ p u. f (k ∷ p) u)) (leaves t (λ p u. g (k ∷ p) u)) (leaves_from fs (suc k) f) (leaves_from fs (suc k) g))

-- ---- a leaf: no count is beyond the widest bounds, only an overflow

outside-widest : (z : ℤ) → mag z < 2 ^ 63 → outside widest z ≡ false
outside-widest (pos n) h = lt-leb (2 ^ 63) n h
outside-widest (negsuc n) h = lt-leb (2 ^ 63) n h

-- a count in its own unit
unit_kept : (u : TimeUnit) → unit_change u u ≡ keep
unit_kept Nanoseconds = refl
unit_kept Microseconds = refl
unit_kept Milliseconds = refl

count_none : (u : TimeUnit) (n : ℕ) → count_beyond widest u (In u) n ≡ false
unfolding count_beyond bounds_before
count_none u n = rw (unit_kept u) (outside-widest (signed 64 n) (signed-mag 64 n))

number-none : (k : Timed) (n : ℕ) → at_leaf k (λ p u. count_beyond widest u k n) ≡ false
unfolding at_leaf
number-none Never n = refl
number-none (In u) n = count_none u n

-- the path to a leaf is at its end
at-end : (k : Timed) (f : List ℕ → TimeUnit → Bool) → at_leaf k f ≡ at_leaf k (λ p u. f [] u)
unfolding at_leaf
at-end Never f = refl
at-end (In u) f = refl

number-leaf : (l : LeafType) (n : ℕ) → at_leaf (time_of (leaf_of l)) (λ p u. some (overflowing u) p (vnumber (leaf_of l) n)) ≡ false
unfolding some meets is_beyond
number-leaf l n = at-end (time_of (leaf_of l)) (λ p u. some (overflowing u) p (vnumber (leaf_of l) n)) ∙ number-none (time_of (leaf_of l)) n

text-leaf : (k : Timed) (b : Bytes) → at_leaf k (λ p u. some (overflowing u) p (vtext b)) ≡ false
unfolding some meets is_beyond
text-leaf k b = at-end k (λ p u. some (overflowing u) p (vtext b)) ∙ at_none k

overflow-leaf : (l : Leaf) → is_datetime l ≡ true → at_leaf (time_of l) (λ p u. some (overflowing u) p voverflow) ≡ true
unfolding at_leaf some meets is_beyond
overflow-leaf l e = rw (datetime-leaf l e)

-- ---- every value that fits

-- the fields from k on
abbrev from : ℕ → Values → Values
from zero vs = vs
from (suc k) vnil = vnil
from (suc k) (vcons v vs) = from k vs

from_next : (k : ℕ) (vs us : Values) (v : Value) → from k vs ≡ vcons v us → (from (suc k) vs ≡ us) × (value_at vs k ≡ v)
unfolding value_at
from_next zero vnil us v e = clash (cc)
from_next zero (vcons x vs) us v e = (cc, cc)
from_next (suc k) vnil us v e = clash (cc)
from_next (suc k) (vcons x vs) us v e = from_next k vs us v e

mutual
  unfolding leaves leaves_from clean clean_all_of some some_part any_of

  pub unclean : {t : DataType} {v : Value} → FitsOver t v → leaves t (λ p u. some (overflowing u) p v) ≡ not (clean v)
  unclean (over-null {t}) = (λ i. leaves t (λ p u. some-null (overflowing u) p i)) ∙ leaves_none t
  unclean (over-number {l} {k} {n} e h t) = rw (← e) (number-leaf l n)
  unclean (over-text {l} {b} e h) = text-leaf (time_of (leaf_of l)) b
  unclean (over-datetime {l} e) = overflow-leaf (leaf_of l) e
  unclean (over-struct {vs = vs} a) = unclean_fields vs 0 a refl
  unclean (over-list h a) = unclean_each a
  unclean (over-array h a) = unclean_each a

  unclean_fields : {fs : Fields} {us : Values} (vs : Values) (k : ℕ) → FitsAllOver fs us → from k vs ≡ us
      → leaves_from fs k (λ p u. some (overflowing u) p (vstruct vs)) ≡ not (clean_all_of us)
  unclean_fields vs k over_nil e = refl
  unclean_fields vs k (over_cons {t = t} {fs = fs} {v = v} {vs = us} a hs) e =
      let n = from_next k vs us v e in
      rw (n.1, unclean a, unclean_fields vs (suc k) hs n.0) (or_not (clean v) (clean_all_of us))

  unclean_each : {t : DataType} {vs : Values} → FitsEachOver t vs → leaves t (λ p u. any_of (λ x. some (overflowing u) p x) vs) ≡ not (clean_all_of vs)
  unclean_each (over_none {t}) = leaves_none t
  unclean_each (over-more {t} {v} {vs} a hs) =
      leaves_or t (λ p u. some (overflowing u) p v) (λ p u. any_of (λ x. some (overflowing u) p x) vs)
      ∙ rw (unclean a, unclean_each hs) (or_not (clean v) (clean_all_of vs))
