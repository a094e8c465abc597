-- Document 01, "Run", from "Integers keep their value" to "keeps the bytes": what a present number of one leaf kind
-- becomes in another.
use Rattle.std.specs.Prelude.{ℕ}
use Rattle.layout.specs.declared.leaf.TimeUnit.{TimeUnit}
use Rattle.layout.specs.declared.leaf.TimeUnit.TheVariants.{Nanoseconds, Microseconds, Milliseconds}
use Rattle.layout.specs.declared.leaf.Leaf.{Leaf}
use Rattle.rules.specs.declared.kinds.Class.{Class}
use Rattle.rules.specs.Classes.{class_of}
use Rattle.numeric.specs.Integers.{signed, pattern, widened}
use Rattle.numeric.specs.Floats.{integer_to_float, float_to_float}
use Rattle.numeric.specs.Times.{finer, coarser}
use Rattle.values.specs.Value.{Value, vnumber, voverflow}
use Rattle.std.specs.Prelude.{Option, Some, None}

-- "multiply by 1,000 or 1,000,000, or divide rounding down; a zone change keeps the count"
pub data UnitChange : Type 0 where
  multiply : ℕ → UnitChange
  divide : ℕ → UnitChange
  keep : UnitChange

abbrev pub unit_change : TimeUnit → TimeUnit → UnitChange
unit_change Nanoseconds Nanoseconds = keep
unit_change Nanoseconds Microseconds = divide 1000
unit_change Nanoseconds Milliseconds = divide 1000000
unit_change Microseconds Nanoseconds = multiply 1000
unit_change Microseconds Microseconds = keep
unit_change Microseconds Milliseconds = divide 1000
unit_change Milliseconds Nanoseconds = multiply 1000000
unit_change Milliseconds Microseconds = multiply 1000
unit_change Milliseconds Milliseconds = keep

-- a product of the kind k, which may not fit 64 bits
unfoldable pub counted : Leaf → Option ℕ → Value
counted k (Some n) = vnumber k n
counted k None = voverflow

-- the count n, of the kind k in its new unit
unfoldable pub rescaled : UnitChange → Leaf → ℕ → Value
rescaled (multiply f) k n = counted k (finer (signed 64 n) f)
rescaled (divide f) k n = vnumber k (pattern 64 (coarser (signed 64 n) f))
rescaled keep k n = vnumber k n

-- the pattern n of the kind a, as a number of the kind k, which is of b; no cast takes one of the other pairs
unfoldable pub convert_as : Class → Class → Leaf → ℕ → Value
convert_as (Class.Integer i) (Class.Integer j) k n = vnumber k (widened i j n)
convert_as (Class.Integer i) (Class.Float g) k n = vnumber k (integer_to_float i g n)
convert_as (Class.Integer i) (Class.Datetime v) k n = vnumber k n
convert_as (Class.Integer i) Class.Other k n = vnumber k n
convert_as (Class.Float f) (Class.Integer j) k n = vnumber k n
convert_as (Class.Float f) (Class.Float g) k n = vnumber k (float_to_float f g n)
convert_as (Class.Float f) (Class.Datetime v) k n = vnumber k n
convert_as (Class.Float f) Class.Other k n = vnumber k n
convert_as (Class.Datetime u) (Class.Integer j) k n = vnumber k n
convert_as (Class.Datetime u) (Class.Float g) k n = vnumber k n
convert_as (Class.Datetime u) (Class.Datetime v) k n = rescaled (unit_change u v) k n
convert_as (Class.Datetime u) Class.Other k n = vnumber k n
convert_as Class.Other b k n = vnumber k n

unfoldable pub convert : Leaf → Leaf → ℕ → Value
convert i k n = convert_as (class_of i) (class_of k) k n
