-- Document 01, "Leaf pairs": and document 02, L1: the 21 leaf kinds, each date-time unit apart, and their numbers.
use Rattle.std.specs.Prelude.{ℕ, ◌+◌}
use Rattle.layout.specs.Layout.{integer_code, float_code, unit_code}
use Rattle.layout.specs.declared.leaf.Leaf.{Leaf}

-- how many there are
abbrev pub kinds : ℕ
kinds = 21

-- the number of a leaf kind; up to 13 it is the type code
abbrev pub kind_of : Leaf → ℕ
kind_of Leaf.Null = 0
kind_of Leaf.Boolean = 1
kind_of (Leaf.Integer i) = integer_code i
kind_of (Leaf.Float f) = float_code f
kind_of Leaf.Date = 13
kind_of (Leaf.Datetime u) = 14 + unit_code u
kind_of Leaf.String = 17
kind_of Leaf.Binary = 18
kind_of Leaf.Categorical = 19
kind_of (Leaf.Decimal d) = 20
