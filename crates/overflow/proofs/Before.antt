-- The bounds before a cast are the weakest: its input is beyond them just where its result is beyond those after it, or
-- too large. Assumes nothing.
use Prim.Native.Nat.{ℕ, ◌+◌, ◌-◌, ◌*◌, ◌/◌, ◌^◌, ◌≤◌, ◌<◌, min}
use mathlib.Core.Path.{◌≡◌, refl, sym, ap, ◌∙◌}
use mathlib.Core.Bool.{Bool, true}
use native.Mathlib.Omega.{arith}
use native.Mathlib.Decide.{dec_le}
use borrow.Author.Tests.{le-leb, lt-leb}
use lib.Dec.{leb}
use lib.IntN.{ℤ, pos, negsuc, ◌*ℤ◌}
use lib.Signed.{mag}
use Rattle.layout.specs.Bytes.{Bytes}
use Rattle.layout.specs.Tree.{LeafType, leaf_of, datetime, leaf}
use Rattle.layout.specs.declared.leaf.TimeUnit.{TimeUnit}
use Rattle.layout.specs.declared.leaf.TimeUnit.TheVariants.{Nanoseconds, Microseconds, Milliseconds}
use Rattle.layout.specs.declared.leaf.Leaf.{Leaf}
use Rattle.layout.specs.declared.leaf.Leaf.TheVariants.{Datetime}
use Rattle.layout.proofs.Ways.{clash}
use Rattle.rules.specs.declared.outcome.CastOption.{CastOption}
use Rattle.rules.proofs.Casts.{Casts, from_null, integer-to-integer, integer_to_float_lem, float_to_float_lem, datetime-to-datetime}
use Rattle.numeric.specs.Integers.{signed, pattern}
use Rattle.numeric.specs.Times.{finer, coarser}
use Rattle.numeric.proofs.Beyond.{beyond, beyond-times, beyond-coarser}
use Rattle.numeric.proofs.TwosComplement.{signed-mag}
use Rattle.numeric.proofs.Units.{count-is, large_is, divided_is}
use Rattle.values.specs.Value.{Value, vnumber}
use Rattle.values.specs.Content.{patterns_of}
use Rattle.plan.specs.Convert.{multiply, divide, keep, unit_change, counted, rescaled, convert_as, convert}
use Rattle.plan.specs.Run.{cast_leaf}
use Rattle.plan.specs.code.Fits.{FitsOver, over-null, over-number, over-text, over-datetime}
use Rattle.overflow.specs.code.Want.{bounds, outside, Small, bounds_before, count_beyond, is_beyond}
use Rattle.overflow.specs.declared.want.Bounds.{Bounds}
use Rattle.std.specs.Prelude.{Option, Some, None}

-- ---- bounds of counts

outside-is : (a b : ℕ) (z : ℤ) → outside (bounds a b) z ≡ beyond a b z
outside-is a b (pos n) = refl
outside-is a b (negsuc n) = refl

-- a count multiplied by f, and divided by f
module _ (d : Bounds) (z : ℤ) (f : ℕ) (h : 0 < f) where
  outside-times : outside d (z *ℤ pos f) ≡ outside (bounds ((d.above + (f - 1)) / f) (d.below / f)) z
  outside-times =
      outside-is d.above d.below (z *ℤ pos f)
      ∙ beyond-times z f d.above d.below h
      ∙ sym (outside-is ((d.above + (f - 1)) / f) (d.below / f) z)

  outside-coarser : outside d (coarser z f) ≡ outside (bounds (d.above * f) (d.below * f)) z
  outside-coarser =
      outside-is d.above d.below (coarser z f)
      ∙ beyond-coarser z f d.above d.below h
      ∙ sym (outside-is (d.above * f) (d.below * f) z)

module _ {d : Bounds} (s : Small d) where
  outside-large : (z : ℤ) → 2 ^ 63 ≤ mag z → outside d z ≡ true
  outside-large (pos n) h = let a = s.above in le-leb d.above n (omega arith)
  outside-large (negsuc n) h = let b = s.below in le-leb d.below n (omega arith)

-- past what a count can be, bounds are all the same
leb-min : (x n : ℕ) → n < 2 ^ 63 → leb x n ≡ leb (min x (2 ^ 63)) n
leb-min x n h = go (dec_le x n)
  where
    go : Dec (x ≤ n) → leb x n ≡ leb (min x (2 ^ 63)) n
    go (yes l) = le-leb x n l ∙ sym (le-leb (min x (2 ^ 63)) n (omega arith))
    go (no l) = lt-leb x n (omega arith) ∙ sym (lt-leb (min x (2 ^ 63)) n (omega arith))

outside-min : (a b : ℕ) (z : ℤ) → mag z < 2 ^ 63 → outside (bounds a b) z ≡ outside (bounds (min a (2 ^ 63)) (min b (2 ^ 63))) z
outside-min a b (pos n) h = leb-min a n h
outside-min a b (negsuc n) h = leb-min b n h

-- ---- a change of unit: t is what asks of the result, which is a count or too large

module _ {d : Bounds} (s : Small d) (k : Leaf) (n : ℕ) (t : Value → Bool) (counts : (m : ℕ) → t (vnumber k m) ≡ outside d (signed 64 m)) where
  module _ (f : ℕ) (h : 0 < f) where
    multiplied : (x : Option ℕ) → finer (signed 64 n) f ≡ x → t (counted k None) ≡ true → t (counted k x) ≡ outside (bounds_before (multiply f) d) (signed 64 n)
    unfolding counted bounds_before
    multiplied (Some m) e o = counts m ∙ ap (outside d) (count-is (signed 64 n) f m e).2 ∙ outside-times d (signed 64 n) f h
    multiplied None e o = o ∙ sym (outside-large s (signed 64 n *ℤ pos f) (large_is (signed 64 n) f e)) ∙ outside-times d (signed 64 n) f h

    divided : t (vnumber k (pattern 64 (coarser (signed 64 n) f))) ≡ outside (bounds_before (divide f) d) (signed 64 n)
    unfolding bounds_before
    divided =
        counts (pattern 64 (coarser (signed 64 n) f))
        ∙ ap (outside d) (divided_is n f)
        ∙ outside-coarser d (signed 64 n) f h
        ∙ outside-min (d.above * f) (d.below * f) (signed 64 n) (signed-mag 64 n)

  module _ (o : t (counted k None) ≡ true) where
    times-by : (f : ℕ) → 0 < f → t (rescaled (multiply f) k n) ≡ outside (bounds_before (multiply f) d) (signed 64 n)
    unfolding rescaled
    times-by f h = multiplied f h (finer (signed 64 n) f) refl o

    over_by : (f : ℕ) → 0 < f → t (rescaled (divide f) k n) ≡ outside (bounds_before (divide f) d) (signed 64 n)
    unfolding rescaled
    over_by f h = divided f h

    kept : t (rescaled keep k n) ≡ outside (bounds_before keep d) (signed 64 n)
    unfolding rescaled bounds_before
    kept = counts n

    changed : (r c : TimeUnit) → t (rescaled (unit_change r c) k n) ≡ outside (bounds_before (unit_change r c) d) (signed 64 n)
    changed Nanoseconds Nanoseconds = kept
    changed Nanoseconds Microseconds = over_by 1000 (omega arith)
    changed Nanoseconds Milliseconds = over_by 1000000 (omega arith)
    changed Microseconds Nanoseconds = times-by 1000 (omega arith)
    changed Microseconds Microseconds = kept
    changed Microseconds Milliseconds = over_by 1000 (omega arith)
    changed Milliseconds Nanoseconds = times-by 1000000 (omega arith)
    changed Milliseconds Microseconds = times-by 1000 (omega arith)
    changed Milliseconds Milliseconds = kept

-- ---- the bounds stay small

small_times : {d : Bounds} → Small d → (f : ℕ) → 0 < f → Small (bounds_before (divide f) d)
unfolding bounds_before
small_times s f h = record { above = omega arith; below = omega arith }

pub small-before : (c u : TimeUnit) {d : Bounds} → Small d → Small (bounds_before (unit_change c u) d)
unfolding bounds_before
small-before Nanoseconds Nanoseconds s = s
small-before Nanoseconds Microseconds s = small_times s 1000 (omega arith)
small-before Nanoseconds Milliseconds s = small_times s 1000000 (omega arith)
small-before Microseconds Nanoseconds s = let a = s.above in let b = s.below in record { above = omega arith; below = omega arith }
small-before Microseconds Microseconds s = s
small-before Microseconds Milliseconds s = small_times s 1000 (omega arith)
small-before Milliseconds Nanoseconds s = let a = s.above in let b = s.below in record { above = omega arith; below = omega arith }
small-before Milliseconds Microseconds s = let a = s.above in let b = s.below in record { above = omega arith; below = omega arith }
small-before Milliseconds Milliseconds s = s

-- ---- a cast to a date-time of the unit c

module _ (c u : TimeUnit) {d : Bounds} (s : Small d) where
  datetime-cast : (r : TimeUnit) (n : ℕ) → is_beyond d u (rescaled (unit_change r c) (Datetime c) n) ≡ is_beyond (bounds_before (unit_change c u) d) c
      (vnumber (Datetime r) n)
  unfolding is_beyond count_beyond counted
  datetime-cast r n = changed (small-before c u s) (Datetime c) n (λ v. is_beyond d u v) (λ m. refl) refl r c

  number-cast : {l : LeafType} {z : Bytes} {o : CastOption} → Casts l (datetime c z) o → (n : ℕ) → n < patterns_of (leaf_of l)
      → is_beyond d u (convert (leaf_of l) (Datetime c) n) ≡ is_beyond (bounds_before (unit_change c u) d) c (vnumber (leaf_of l) n)
  unfolding convert convert_as
  number-cast (from_null ne) n h = absurd (omega arith)
  number-cast (integer-to-integer ne a b q) n h = clash (cc)
  number-cast (integer_to_float_lem a b) n h = clash (cc)
  number-cast (float_to_float_lem ne a b) n h = clash (cc)
  number-cast (datetime-to-datetime {u = r} ne e) n h = datetime-cast r n

  pub leaf-cast : {l : LeafType} {z : Bytes} {o : CastOption} {v : Value} → Casts l (datetime c z) o → FitsOver (leaf l) v
      → is_beyond d u (cast_leaf (Datetime c) v) ≡ is_beyond (bounds_before (unit_change c u) d) c v
  unfolding cast_leaf is_beyond
  leaf-cast k over-null = refl
  leaf-cast {l} k (over-number {n = n} e h t) =
      let g : n < patterns_of (leaf_of l) = rw e h in
      ap (λ (x : Leaf). is_beyond d u (convert x (Datetime c) n)) (sym e) ∙ number-cast k n g ∙ ap
      (λ (x : Leaf). is_beyond (bounds_before (unit_change c u) d) c (vnumber x n)) e
  leaf-cast k (over-text e h) = refl
  leaf-cast k (over-datetime e) = refl
