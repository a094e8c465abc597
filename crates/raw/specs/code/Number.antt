-- The number that a leaf is.
use Rattle.std.specs.Prelude.{ℕ, ◌≡◌, Bool, true, false}
use Rattle.layout.specs.Bytes.{Bytes}
use Rattle.layout.specs.Parser.{ok}
use Rattle.layout.specs.declared.leaf.Leaf.{Leaf}
use Rattle.values.specs.Value.{Value, vnull, vnumber, vtext, voverflow, vstruct, vlist, varray}
use Rattle.values.specs.Reading.{leaf_content}
use Rattle.raw.specs.declared.leaf.LeafValue.{LeafValue}

-- what follows the presence byte of a leaf of a kind
pub record LeafAt (k : Leaf) (s : Bytes) (at : ℕ) : Type 0 where
  pub tree : Value
  pub end : ℕ
  pub reads : leaf_content k s at ≡ ok tree end

unfoldable pub is_number : Value → Bool
is_number vnull = false
is_number (vnumber k n) = true
is_number (vtext b) = false
is_number voverflow = false
is_number (vstruct vs) = false
is_number (vlist vs) = false
is_number (varray vs) = false

-- the answer is the number that v is, or that it is none
abbrev pub LeafAnswer : Value → LeafValue → Type 0
LeafAnswer v (LeafValue.Number k n) = v ≡ vnumber k n
LeafAnswer v LeafValue.Other = is_number v ≡ false

pub record LeafIs (v : Value) (r : LeafValue) : Type 0 where
  pub answer : LeafAnswer v r
