-- What is answered for each pair of kinds, and a number's width. Assumes nothing.
use Prim.Native.Nat.{ℕ, ◌+◌, ◌≤◌, ◌<◌}
use mathlib.Core.Path.{◌≡◌, ap, ◌∙◌}
use native.Mathlib.Omega.{arith}
use lib.ListN.{length, set}
use Rattle.layout.specs.Bytes.{Bytes}
use Rattle.layout.specs.declared.leaf.Leaf.{Leaf}
use Rattle.layout.specs.declared.leaf.TimeUnit.{TimeUnit}
use Rattle.store.specs.code.Overlay.{overlay}
use Rattle.store.specs.LittleEndian.{little_bytes}
use Rattle.store.proofs.Overlay.{length-little}
use Rattle.numeric.specs.declared.integers.Integer.{Integer}
use Rattle.numeric.specs.declared.floats.Format.{Format}
use Rattle.numeric.specs.Integers.{signed, pattern, widened}
use Rattle.numeric.specs.Floats.{integer_to_float, float_to_float}
use Rattle.numeric.specs.Times.{finer, coarser}
use Rattle.values.proofs.Leaves.{width_small}
use Rattle.values.specs.Value.{Value, vnumber, voverflow}
use Rattle.values.specs.Content.{content_of, width_in, width_of}
use Rattle.values.specs.Encode.{encode_value}
use Rattle.values.specs.declared.content.Content.{Content}
use Rattle.plan.specs.Convert.{unit_change, counted, rescaled, convert_as, convert}
use Rattle.convert.specs.code.Converted.{change_of, Positive, value_of}
use Rattle.rules.specs.declared.kinds.Class.{Class}
use Rattle.rules.specs.Classes.{class_of}
use Rattle.convert.specs.declared.leaf.UnitChange.{UnitChange}
use Rattle.convert.specs.declared.leaf.Converted.{Converted}
use Rattle.std.specs.Prelude.{Option, Some, None}

-- ---- a date-time's unit

module _ {c : UnitChange} where
  pub multiplies : {f : ℕ} → Positive c → c ≡ UnitChange.Multiply f → 0 < f
  multiplies h e = rw e at h

  pub divides : {f : ℕ} → Positive c → c ≡ UnitChange.Divide f → 0 < f
  divides h e = rw e at h

  module _ (k : Leaf) (n : ℕ) where
    pub rescaled-count : {f m : ℕ} {p : Option ℕ} → c ≡ UnitChange.Multiply f → p ≡ finer (signed 64 n) f → p ≡ Some m → vnumber k m ≡ rescaled
        (change_of c) k n
    unfolding rescaled counted
    rescaled-count e g h = rw (e, ← g, h)

    pub rescaled-over : {f : ℕ} {p : Option ℕ} → c ≡ UnitChange.Multiply f → p ≡ finer (signed 64 n) f → p ≡ None → voverflow ≡ rescaled (change_of c) k n
    unfolding rescaled counted
    rescaled-over e g h = rw (e, ← g, h)

    pub rescaled-down : {f m : ℕ} → c ≡ UnitChange.Divide f → m ≡ pattern 64 (coarser (signed 64 n) f) → vnumber k m ≡ rescaled (change_of c) k n
    unfolding rescaled
    rescaled-down e g = rw (e, g)

    pub rescaled-same : c ≡ UnitChange.Keep → vnumber k n ≡ rescaled (change_of c) k n
    unfolding rescaled
    rescaled-same e = rw e

-- ---- by the kind of the number and that of the target

module _ (k : Leaf) (n : ℕ) {r : Class} (q : r ≡ class_of k) where
  module _ (i : Integer) where
    pub integer-integer : {j : Integer} {m : ℕ} → r ≡ Class.Integer j → m ≡ widened i j n → vnumber k m ≡ convert_as (Class.Integer i) (class_of k) k n
    unfolding convert_as
    integer-integer e g = rw (← q, e, g)

    pub integer-float : {f : Format} {m : ℕ} → r ≡ Class.Float f → m ≡ integer_to_float i f n → vnumber k m ≡ convert_as (Class.Integer i) (class_of k) k n
    unfolding convert_as
    integer-float e g = rw (← q, e, g)

    pub integer-datetime : {u : TimeUnit} → r ≡ Class.Datetime u → vnumber k n ≡ convert_as (Class.Integer i) (class_of k) k n
    unfolding convert_as
    integer-datetime e = rw (← q, e)

    pub integer-other : r ≡ Class.Other → vnumber k n ≡ convert_as (Class.Integer i) (class_of k) k n
    unfolding convert_as
    integer-other e = rw (← q, e)

  module _ (f : Format) where
    pub float-integer : {j : Integer} → r ≡ Class.Integer j → vnumber k n ≡ convert_as (Class.Float f) (class_of k) k n
    unfolding convert_as
    float-integer e = rw (← q, e)

    pub float-float : {g : Format} {m : ℕ} → r ≡ Class.Float g → m ≡ float_to_float f g n → vnumber k m ≡ convert_as (Class.Float f) (class_of k) k n
    unfolding convert_as
    float-float e h = rw (← q, e, h)

    pub float-datetime : {u : TimeUnit} → r ≡ Class.Datetime u → vnumber k n ≡ convert_as (Class.Float f) (class_of k) k n
    unfolding convert_as
    float-datetime e = rw (← q, e)

    pub float-other : r ≡ Class.Other → vnumber k n ≡ convert_as (Class.Float f) (class_of k) k n
    unfolding convert_as
    float-other e = rw (← q, e)

  module _ (u : TimeUnit) where
    pub datetime-integer : {j : Integer} → r ≡ Class.Integer j → vnumber k n ≡ convert_as (Class.Datetime u) (class_of k) k n
    unfolding convert_as
    datetime-integer e = rw (← q, e)

    pub datetime-float : {f : Format} → r ≡ Class.Float f → vnumber k n ≡ convert_as (Class.Datetime u) (class_of k) k n
    unfolding convert_as
    datetime-float e = rw (← q, e)

    pub datetime-datetime : {v : TimeUnit} (c : UnitChange) (x : Converted) → r ≡ Class.Datetime v → change_of c ≡ unit_change u v
        → ((k : Leaf) → value_of k x ≡ rescaled (change_of c) k n) → value_of k x ≡ convert_as (Class.Datetime u) (class_of k) k n
    unfolding convert_as
    datetime-datetime c x e g h = rw (← q, e, ← g) (h k)

    pub datetime-other : r ≡ Class.Other → vnumber k n ≡ convert_as (Class.Datetime u) (class_of k) k n
    unfolding convert_as
    datetime-other e = rw (← q, e)

module _ (i k : Leaf) (n : ℕ) {r : Class} (q : r ≡ class_of i) where
  pub from_integer_lem : {j : Integer} {x : Value} → r ≡ Class.Integer j → x ≡ convert_as (Class.Integer j) (class_of k) k n → x ≡ convert i k n
  unfolding convert
  from_integer_lem e h = rw (← q, e) h

  pub from_float : {f : Format} {x : Value} → r ≡ Class.Float f → x ≡ convert_as (Class.Float f) (class_of k) k n → x ≡ convert i k n
  unfolding convert
  from_float e h = rw (← q, e) h

  pub from-datetime : {u : TimeUnit} {x : Value} → r ≡ Class.Datetime u → x ≡ convert_as (Class.Datetime u) (class_of k) k n → x ≡ convert i k n
  unfolding convert
  from-datetime e h = rw (← q, e) h

  pub from-other : r ≡ Class.Other → vnumber k n ≡ convert i k n
  unfolding convert convert_as
  from-other e = rw (← q, e)

-- ---- a number's bytes

pub width_is : (k : Leaf) {c : Content} {w : ℕ} → c ≡ content_of k → w ≡ width_in c → (w ≡ width_of k) × (w ≤ 8)
width_is k {c} {w} e f =
    let z : w ≡ width_of k = f ∙ ap (λ (x : Content). width_in x) e in
    let y = width_small k in
    (z, omega arith)

pub number-long : (k : Leaf) (n : ℕ) {w : ℕ} → w ≡ width_of k → w + 1 ≡ length (encode_value (vnumber k n))
unfolding encode_value
number-long k n {w} e = let z = length-little (width_of k) n in omega arith

pub number-stored : (kind : Leaf) (n : ℕ) (out : Bytes) (k : ℕ) {w : ℕ} {o o' : Bytes} → w ≡ width_of kind → o ≡ set out k 1 → o' ≡ overlay o (k + 1)
    (little_bytes w n)
    → o' ≡ overlay out k (encode_value (vnumber kind n))
unfolding encode_value overlay
number-stored kind n out k e f g = rw (g, f, e)
