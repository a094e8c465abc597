-- Document 01, "Leaf pairs", 17: the target's range has every incoming value (`get_numeric_upcast_supertype_lossless`).
use Rattle.std.specs.Prelude.{ℕ, Bool, ◌&&◌}
use Rattle.std.specs.Int.Signed.{le_z}
use Rattle.layout.specs.declared.leaf.Leaf.{Leaf}
use Rattle.layout.specs.declared.types.PlainLeaf.{PlainLeaf}
use Rattle.layout.specs.Layout.{plain_leaf}
use Rattle.rules.specs.Classes.{is_integer, lowest, highest}

-- the range of the integer kind t has every value of the integer kind i
abbrev pub holds : Leaf → Leaf → Bool
holds t i = le_z (lowest t) (lowest i) && le_z (highest i) (highest t)

-- the leaf of a type code, and Null for a code that is no leaf's alone
abbrev pub leaf_at : PlainLeaf → Leaf
leaf_at (PlainLeaf.Known l) = l
leaf_at PlainLeaf.Unknown = Leaf.Null

abbrev pub integer_at : ℕ → Leaf
integer_at code = leaf_at (plain_leaf code)

abbrev pub is_integer_code : ℕ → Bool
is_integer_code code = is_integer (integer_at code)

-- both codes are of integers, and the target's range has every incoming value
abbrev pub promotes : ℕ → ℕ → Bool
promotes i t = is_integer_code i && is_integer_code t && holds (integer_at t) (integer_at i)
