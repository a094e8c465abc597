-- What is asked of a node of the output, and of the nodes from which it comes. Document 01, 44: "a strict date-time too
-- large anywhere in the output". All changes of unit are monotone, so that what has to stand before a cast for its
-- result to be too large is a count beyond a pair of bounds.
use Rattle.std.specs.Prelude.{ℕ, ◌+◌, ◌-◌, ◌*◌, ◌/◌, ◌^◌, ◌≤◌, min, Bool, true, false, leb, ℤ, pos, negsuc}
use Rattle.layout.specs.declared.leaf.TimeUnit.{TimeUnit}
use Rattle.layout.specs.declared.leaf.Leaf.{Leaf}
use Rattle.numeric.specs.Integers.{signed}
use Rattle.values.specs.Value.{Value, vnull, vnumber, vtext, voverflow, vstruct, vlist, varray, Values, vnil, vcons}
use Rattle.rules.specs.declared.kinds.Class.{Class}
use Rattle.rules.specs.Classes.{class_of}
use Rattle.plan.specs.Convert.{UnitChange, multiply, divide, keep, unit_change}
use Rattle.overflow.specs.declared.want.Bounds.{Bounds}
use Rattle.overflow.specs.declared.want.Timed.{Timed}
use Rattle.overflow.specs.declared.want.Timed.TheVariants.{In, Never}
use Rattle.overflow.specs.declared.want.Want.{Want}
use Rattle.overflow.specs.declared.want.Want.TheVariants.{Parts, Element, Beyond}

abbrev pub bounds : ℕ → ℕ → Bounds
bounds a b = record { above = a; below = b }

-- the number is beyond the bounds; `negsuc n` is -(n + 1)
abbrev pub outside : Bounds → ℤ → Bool
outside d (pos n) = leb d.above n
outside d (negsuc n) = leb d.below n

-- no count of 64 bits is beyond these
abbrev pub widest : Bounds
widest = bounds (2 ^ 63) (2 ^ 63)

pub record Small (d : Bounds) : Type 0 where
  pub above : d.above ≤ 2 ^ 63
  pub below : d.below ≤ 2 ^ 63

abbrev pub SmallWant : Want → Type 0
SmallWant Parts = Unit {0}
SmallWant Element = Unit {0}
SmallWant (Beyond d u) = Small d

-- The bounds before a change of unit, by those after it: a count is beyond the former just where what it is changed to
-- is beyond the latter or too large.
unfoldable pub bounds_before : UnitChange → Bounds → Bounds
bounds_before (multiply f) d = bounds ((d.above + (f - 1)) / f) (d.below / f)
bounds_before (divide f) d = bounds (min (d.above * f) (2 ^ 63)) (min (d.below * f) (2 ^ 63))
bounds_before keep d = d

-- what is asked of a date-time leaf of the output, of the unit u: an overflow
abbrev pub overflowing : TimeUnit → Want
overflowing u = Beyond widest u

-- the unit of a leaf, if it is a date-time
abbrev pub timed : Class → Timed
timed (Class.Integer i) = Never
timed (Class.Float f) = Never
timed (Class.Datetime u) = In u
timed Class.Other = Never

abbrev pub time_of : Leaf → Timed
time_of k = timed (class_of k)

-- a count of that unit, brought to the unit u, is beyond the bounds or too large
unfoldable pub count_beyond : Bounds → TimeUnit → Timed → ℕ → Bool
count_beyond d u (In r) n = outside (bounds_before (unit_change r u) d) (signed 64 n)
count_beyond d u Never n = false

unfoldable pub filled : Values → Bool
filled vnil = false
filled (vcons v vs) = true

-- whether a node is such
unfoldable pub is_beyond : Bounds → TimeUnit → Value → Bool
is_beyond d u vnull = false
is_beyond d u (vnumber k n) = count_beyond d u (time_of k) n
is_beyond d u (vtext b) = false
is_beyond d u voverflow = true
is_beyond d u (vstruct vs) = false
is_beyond d u (vlist vs) = false
is_beyond d u (varray vs) = false

unfoldable pub is_struct : Value → Bool
is_struct vnull = false
is_struct (vnumber k n) = false
is_struct (vtext b) = false
is_struct voverflow = false
is_struct (vstruct vs) = true
is_struct (vlist vs) = false
is_struct (varray vs) = false

unfoldable pub is_filled : Value → Bool
is_filled vnull = false
is_filled (vnumber k n) = false
is_filled (vtext b) = false
is_filled voverflow = false
is_filled (vstruct vs) = false
is_filled (vlist vs) = filled vs
is_filled (varray vs) = filled vs

unfoldable pub meets : Want → Value → Bool
meets Parts v = is_struct v
meets Element v = is_filled v
meets (Beyond d u) v = is_beyond d u v
