-- What the rules of leaf pairs and the conversions ask of a leaf: an integer's range, a float's precision, a
-- date-time's unit.
use Rattle.std.specs.Prelude.{ℕ, Bool, true, false, eqb, ℤ, pos}
use Rattle.numeric.specs.Integers as integers
use Rattle.numeric.specs.Floats.{precision_of}
use Rattle.layout.specs.declared.leaf.TimeUnit.{TimeUnit}
use Rattle.layout.specs.declared.leaf.TimeUnit.TheVariants.{Nanoseconds}
use Rattle.layout.specs.declared.leaf.Leaf.{Leaf}
use Rattle.rules.specs.declared.kinds.Class.{Class}
use Rattle.rules.specs.Kinds.{kind_of}

abbrev pub class_of : Leaf → Class
class_of Leaf.Null = Class.Other
class_of Leaf.Boolean = Class.Other
class_of (Leaf.Integer i) = Class.Integer i
class_of (Leaf.Float f) = Class.Float f
class_of Leaf.Date = Class.Other
class_of (Leaf.Datetime u) = Class.Datetime u
class_of Leaf.String = Class.Other
class_of Leaf.Binary = Class.Other
class_of Leaf.Categorical = Class.Other
class_of (Leaf.Decimal d) = Class.Other

abbrev pub is_integer : Leaf → Bool
is_integer l = elim (class_of l) [ Class.Integer i ↦ true | Class.Float f ↦ false | Class.Datetime u ↦ false | Class.Other ↦ false ]

abbrev pub lowest : Leaf → ℤ
lowest l = elim (class_of l) [ Class.Integer i ↦ integers.lowest i | Class.Float f ↦ pos 0 | Class.Datetime u ↦ pos 0 | Class.Other ↦ pos 0 ]

abbrev pub highest : Leaf → ℤ
highest l = elim (class_of l) [ Class.Integer i ↦ integers.highest i | Class.Float f ↦ pos 0 | Class.Datetime u ↦ pos 0 | Class.Other ↦ pos 0 ]

abbrev pub is_float : Leaf → Bool
is_float l = elim (class_of l) [ Class.Integer i ↦ false | Class.Float f ↦ true | Class.Datetime u ↦ false | Class.Other ↦ false ]

abbrev pub precision : Leaf → ℕ
precision l = elim (class_of l) [ Class.Integer i ↦ 0 | Class.Float f ↦ precision_of f | Class.Datetime u ↦ 0 | Class.Other ↦ 0 ]

abbrev pub is_datetime : Leaf → Bool
is_datetime l = elim (class_of l) [ Class.Integer i ↦ false | Class.Float f ↦ false | Class.Datetime u ↦ true | Class.Other ↦ false ]

abbrev pub unit : Leaf → TimeUnit
unit l = elim (class_of l) [ Class.Integer i ↦ Nanoseconds | Class.Float f ↦ Nanoseconds | Class.Datetime u ↦ u | Class.Other ↦ Nanoseconds ]

abbrev pub is_null : Leaf → Bool
is_null l = eqb (kind_of l) (kind_of Leaf.Null)

abbrev pub is_string : Leaf → Bool
is_string l = eqb (kind_of l) (kind_of Leaf.String)

abbrev pub is_categorical : Leaf → Bool
is_categorical l = eqb (kind_of l) (kind_of Leaf.Categorical)

abbrev pub is_decimal : Leaf → Bool
is_decimal l = eqb (kind_of l) 20
