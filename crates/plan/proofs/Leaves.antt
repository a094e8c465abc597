-- A cast that passes takes the numbers and texts of its incoming leaf type to those of its target. Assumes nothing.
use Prim.Native.Nat.{ℕ, ◌^◌, ◌≤◌, ◌<◌}
use lib.Dec.{eqb, ltb}
use borrow.Author.Tests.{ltb-true}
use Rattle.layout.specs.declared.leaf.Decimal.{Decimal}
use Rattle.rules.specs.Params.{widens}
use Rattle.numeric.proofs.Magnitude.{within_wider}
use mathlib.Core.Path.{◌≡◌, refl, ap}
use mathlib.Core.Bool.{Bool, true, false, ◌&&◌}
use native.Mathlib.Omega.{arith}
use Rattle.layout.specs.Bytes.{Bytes}
use Rattle.layout.specs.Tree.{LeafType, leaf_of, datetime, DataType, leaf}
use Rattle.layout.specs.declared.leaf.TimeUnit.{TimeUnit}
use Rattle.layout.specs.declared.leaf.Leaf.{Leaf}
use Rattle.rules.specs.declared.kinds.Class.{Class}
use Rattle.layout.proofs.Ways.{clash}
use Rattle.rules.specs.declared.outcome.CastOption.{CastOption}
use Rattle.rules.specs.Classes.{class_of, is_integer, is_float, is_datetime}
use Rattle.rules.proofs.Casts.{Casts, from_null, integer-to-integer, integer_to_float_lem, float_to_float_lem, datetime-to-datetime, category_to-string}
use Rattle.rules.proofs.Casts.{decimal-to-decimal}
use Rattle.numeric.specs.declared.integers.Integer.{Integer}
use Rattle.numeric.specs.declared.floats.Format.{Format}
use Rattle.numeric.specs.Integers.{bits_of, signed, widened}
use Rattle.numeric.specs.Floats.{width_of, integer_to_float, float_to_float}
use Rattle.numeric.specs.Times.{finer}
use Rattle.numeric.proofs.Bounds.{integer_bytes_lem, float_bytes_lem, integer_to_float_lt, float_to_float_lt, widened_lt, multiplied_lt, divided_lt}
use Rattle.values.specs.Value.{Value, vnumber}
use Rattle.values.specs.Content.{content_of, patterns_of, within}
use Rattle.values.specs.declared.content.Content.TheVariants.{Text}
use Rattle.plan.specs.Convert.{UnitChange, multiply, divide, keep, unit_change, counted, rescaled, convert_as, convert}
use Rattle.plan.specs.Run.{cast_leaf}
use Rattle.plan.specs.code.Fits.{FitsOver, over-null, over-number, over-text, over-datetime}
use Rattle.plan.proofs.Results.{true≠false}
use Rattle.std.specs.Prelude.{Option, Some, None}

-- ---- the classes of the rules, as kinds of numbers

pub record IsInteger (l : Leaf) : Type 0 where
  pub kind : Integer
  pub is : class_of l ≡ Class.Integer kind
  pub patterns : patterns_of l ≡ 2 ^ bits_of kind
  pub all : (n : ℕ) → within l n ≡ true

pub integer-kind : (l : Leaf) → is_integer l ≡ true → IsInteger l
integer-kind Leaf.Null e = clash (cc)
integer-kind Leaf.Boolean e = clash (cc)
integer-kind (Leaf.Integer i) e = record { kind = i; is = refl; patterns = ap (λ (n : ℕ). 2 ^ n) (integer_bytes_lem i); all = λ n. refl }
integer-kind (Leaf.Float f) e = clash (cc)
integer-kind Leaf.Date e = clash (cc)
integer-kind (Leaf.Datetime u) e = clash (cc)
integer-kind Leaf.String e = clash (cc)
integer-kind Leaf.Binary e = clash (cc)
integer-kind Leaf.Categorical e = clash (cc)
integer-kind (Leaf.Decimal d) e = clash (cc)

pub record IsFloat (l : Leaf) : Type 0 where
  pub format : Format
  pub is : class_of l ≡ Class.Float format
  pub patterns : patterns_of l ≡ 2 ^ width_of format
  pub all : (n : ℕ) → within l n ≡ true

pub float-kind : (l : Leaf) → is_float l ≡ true → IsFloat l
float-kind Leaf.Null e = clash (cc)
float-kind Leaf.Boolean e = clash (cc)
float-kind (Leaf.Integer i) e = clash (cc)
float-kind (Leaf.Float f) e = record { format = f; is = refl; patterns = ap (λ (n : ℕ). 2 ^ n) (float_bytes_lem f); all = λ n. refl }
float-kind Leaf.Date e = clash (cc)
float-kind (Leaf.Datetime u) e = clash (cc)
float-kind Leaf.String e = clash (cc)
float-kind Leaf.Binary e = clash (cc)
float-kind Leaf.Categorical e = clash (cc)
float-kind (Leaf.Decimal d) e = clash (cc)

-- a leaf of texts is no other
text-other : (l : Leaf) → content_of l ≡ Text → (is_integer l ≡ false) × (is_float l ≡ false)
text-other Leaf.Null e = clash (cc)
text-other Leaf.Boolean e = clash (cc)
text-other (Leaf.Integer i) e = clash (cc)
text-other (Leaf.Float f) e = clash (cc)
text-other Leaf.Date e = clash (cc)
text-other (Leaf.Datetime u) e = clash (cc)
text-other Leaf.String e = (refl, refl)
text-other Leaf.Binary e = (refl, refl)
text-other Leaf.Categorical e = (refl, refl)
text-other (Leaf.Decimal d) e = clash (cc)

-- nor is a date-time
time_other : (l : Leaf) → is_datetime l ≡ true → (is_integer l ≡ false) × (is_float l ≡ false)
time_other Leaf.Null e = clash (cc)
time_other Leaf.Boolean e = clash (cc)
time_other (Leaf.Integer i) e = clash (cc)
time_other (Leaf.Float f) e = clash (cc)
time_other Leaf.Date e = clash (cc)
time_other (Leaf.Datetime u) e = (refl, refl)
time_other Leaf.String e = clash (cc)
time_other Leaf.Binary e = clash (cc)
time_other Leaf.Categorical e = clash (cc)
time_other (Leaf.Decimal d) e = clash (cc)

-- ---- each conversion keeps to its target

module _ (i t : Leaf) (n : ℕ) where
  pub integers-convert : (a : IsInteger i) (b : IsInteger t) → (m : ℕ) × (convert i t n ≡ vnumber t m) × (m < patterns_of t)
  unfolding convert convert_as
  integers-convert a b = (widened a.kind b.kind n, rw (a.is, b.is), rw b.patterns (widened_lt a.kind b.kind n))

  pub integer-float-convert : (a : IsInteger i) (b : IsFloat t) → (m : ℕ) × (convert i t n ≡ vnumber t m) × (m < patterns_of t)
  unfolding convert convert_as
  integer-float-convert a b = (integer_to_float a.kind b.format n, rw (a.is, b.is), rw b.patterns (integer_to_float_lt a.kind b.format n))

  pub floats_convert : (a : IsFloat i) (b : IsFloat t) → (m : ℕ) × (convert i t n ≡ vnumber t m) × (m < patterns_of t)
  unfolding convert convert_as
  floats_convert a b = (float_to_float a.format b.format n, rw (a.is, b.is), rw b.patterns (float_to_float_lt a.format b.format n))

number-over : (l : LeafType) {v : Value} {m : ℕ} → v ≡ vnumber (leaf_of l) m → m < patterns_of (leaf_of l) → within (leaf_of l) m ≡ true → FitsOver (leaf l) v
number-over l e h t = rw e (over-number refl h t)

counted-over : (v : TimeUnit) (z : Bytes) (f : Option ℕ) → ((m : ℕ) → f ≡ Some m → m < 2 ^ 64) → FitsOver (leaf (datetime v z)) (counted (Leaf.Datetime v) f)
unfolding counted
counted-over v z (Some m) h = over-number refl (h m refl) refl
counted-over v z None h = over-datetime refl

rescaled-over : (c : UnitChange) (v : TimeUnit) (z : Bytes) (n : ℕ) → n < 2 ^ 64 → FitsOver (leaf (datetime v z)) (rescaled c (Leaf.Datetime v) n)
unfolding rescaled
rescaled-over (multiply f) v z n h = counted-over v z (finer (signed 64 n) f) (λ m e. multiplied_lt (signed 64 n) f m e)
rescaled-over (divide f) v z n h = over-number refl (divided_lt (signed 64 n) f) refl
rescaled-over keep v z n h = over-number refl h refl

-- the value's own kind is the type's
same_kind : (l : LeafType) {k : Leaf} (f : Leaf → Value) {t : DataType} → leaf_of l ≡ k → FitsOver t (f (leaf_of l)) → FitsOver t (f k)
same_kind l f e h = rw (← e) h

below : (l : LeafType) {k : Leaf} (n : ℕ) → leaf_of l ≡ k → n < patterns_of k → n < patterns_of (leaf_of l)
below l n e h = rw e h

kept-within : (l : LeafType) {k : Leaf} (n : ℕ) → leaf_of l ≡ k → within k n ≡ true → within (leaf_of l) n ≡ true
kept-within l n e t = rw e t

widens-below : (d e : Decimal) → widens d e ≡ true → d.precision ≤ e.precision
widens-below d e = go (eqb d.scale e.scale)
  where
    go : (c : Bool) → (c && ltb d.precision e.precision) ≡ true → d.precision ≤ e.precision
    go true h = let k = ltb-true d.precision e.precision h in omega arith
    go false h = clash (cc)

number-cast : {l m : LeafType} {o : CastOption} → Casts l m o → (n : ℕ) → n < patterns_of (leaf_of l) → within (leaf_of l) n ≡ true → FitsOver (leaf m)
    (convert (leaf_of l) (leaf_of m) n)
unfolding convert convert_as
number-cast (from_null ne) n h t = absurd (omega arith)
number-cast {l} {m} (integer-to-integer ne a b c) n h t =
    let j = integer-kind (leaf_of m) b in
    let (x, e, k) = integers-convert (leaf_of l) (leaf_of m) n (integer-kind (leaf_of l) a) j in number-over m e k (j.all x)
number-cast {l} {m} (integer_to_float_lem a b) n h t =
    let j = float-kind (leaf_of m) b in
    let (x, e, k) = integer-float-convert (leaf_of l) (leaf_of m) n (integer-kind (leaf_of l) a) j in number-over m e k (j.all x)
number-cast {l} {m} (float_to_float_lem ne a b) n h t =
    let j = float-kind (leaf_of m) b in
    let (x, e, k) = floats_convert (leaf_of l) (leaf_of m) n (float-kind (leaf_of l) a) j in number-over m e k (j.all x)
number-cast (datetime-to-datetime {u} {v} {z} {w} ne e) n h t = rescaled-over (unit_change u v) v w n h
number-cast category_to-string n h t = absurd (omega arith)
number-cast (decimal-to-decimal {d} {e} w) n h t = over-number refl h (within_wider d.precision e.precision (signed 64 n) (widens-below d e w) t)

text-cast : {l m : LeafType} {o : CastOption} → Casts l m o → content_of (leaf_of l) ≡ Text → content_of (leaf_of m) ≡ Text
text-cast (from_null ne) e = clash (cc)
text-cast {l} {m} (integer-to-integer ne a b c) e = true≠false a (text-other (leaf_of l) e).0
text-cast {l} {m} (integer_to_float_lem a b) e = true≠false a (text-other (leaf_of l) e).0
text-cast {l} {m} (float_to_float_lem ne a b) e = true≠false a (text-other (leaf_of l) e).1
text-cast (datetime-to-datetime ne q) e = clash (cc)
text-cast category_to-string e = refl
text-cast (decimal-to-decimal w) e = clash (cc)

time_cast : {l m : LeafType} {o : CastOption} → Casts l m o → is_datetime (leaf_of l) ≡ true → is_datetime (leaf_of m) ≡ true
time_cast (from_null ne) e = clash (cc)
time_cast {l} {m} (integer-to-integer ne a b c) e = true≠false a (time_other (leaf_of l) e).0
time_cast {l} {m} (integer_to_float_lem a b) e = true≠false a (time_other (leaf_of l) e).0
time_cast {l} {m} (float_to_float_lem ne a b) e = true≠false a (time_other (leaf_of l) e).1
time_cast (datetime-to-datetime ne q) e = refl
time_cast category_to-string e = clash (cc)
time_cast (decimal-to-decimal w) e = clash (cc)

pub leaf-cast : {l m : LeafType} {o : CastOption} {v : Value} → Casts l m o → FitsOver (leaf l) v → FitsOver (leaf m) (cast_leaf (leaf_of m) v)
unfolding cast_leaf
leaf-cast c over-null = over-null
leaf-cast {l} {m} c (over-number {n = n} e h t) = same_kind l (λ (x : Leaf). convert x (leaf_of m) n) e (number-cast c n (below l n e h) (kept-within l n e t))
leaf-cast c (over-text e h) = over-text (text-cast c e) h
leaf-cast c (over-datetime e) = over-datetime (time_cast c e)
