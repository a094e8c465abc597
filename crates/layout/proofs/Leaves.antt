-- What holds for every leaf: a leaf type is its kind and its zone; each kind that is its code alone stands at its code
-- in the readers' list. Assumes nothing.
use Prim.Native.Nat.{ℕ, ◌≤◌, ◌<◌}
use mathlib.Core.Path.{◌≡◌, refl, sym, ap, ◌∙◌}
use mathlib.Core.Bool.{false}
use mathlib.Core.List.{[]}
use lib.Dec.{eqb}
use borrow.Author.Tests.{ne_eqb}
use native.Mathlib.Omega.{arith}
use Rattle.numeric.specs.declared.integers.Integer.{Integer}
use Rattle.numeric.specs.declared.integers.Integer.TheVariants.{Int8, Int16, Int32, Int64, UInt8, UInt16, UInt32, UInt64}
use Rattle.numeric.specs.declared.floats.Format.{Format}
use Rattle.numeric.specs.declared.floats.Format.TheVariants.{Binary16, Binary32, Binary64}
use Rattle.layout.specs.Bytes.{Bytes}
use Rattle.layout.specs.Tree.{LeafType, leaf_type, leaf_of, zone_of, null, boolean, integer, float, date, datetime, string, binary, categorical, decimal}
use Rattle.layout.specs.Parser.{ok, choose}
use Rattle.layout.specs.Layout.{a_leaf, plain_leaf, leaf_head, kind_of, integer_code, float_code}
use Rattle.layout.specs.declared.leaf.Leaf.{Leaf}
use Rattle.layout.specs.declared.types.PlainLeaf.TheVariants.{Known, Unknown}
use Rattle.layout.proofs.Ways.{clash}

-- ---- kind and zone

pub leaf_of-type : (k : Leaf) (z : Bytes) → leaf_of (leaf_type k z) ≡ k
leaf_of-type Leaf.Null z = refl
leaf_of-type Leaf.Boolean z = refl
leaf_of-type (Leaf.Integer i) z = refl
leaf_of-type (Leaf.Float f) z = refl
leaf_of-type Leaf.Date z = refl
leaf_of-type (Leaf.Datetime u) z = refl
leaf_of-type Leaf.String z = refl
leaf_of-type Leaf.Binary z = refl
leaf_of-type Leaf.Categorical z = refl
leaf_of-type (Leaf.Decimal d) z = refl

pub leaf_type_of : (a : LeafType) → leaf_type (leaf_of a) (zone_of a) ≡ a
leaf_type_of null = refl
leaf_type_of boolean = refl
leaf_type_of (integer i) = refl
leaf_type_of (float f) = refl
leaf_type_of date = refl
leaf_type_of (datetime u z) = refl
leaf_type_of string = refl
leaf_type_of binary = refl
leaf_type_of categorical = refl
leaf_type_of (decimal d) = refl

-- a leaf type of a kind that is known
pub type_of-leaf : (a : LeafType) (k : Leaf) → leaf_of a ≡ k → a ≡ leaf_type k (zone_of a)
type_of-leaf a k e = sym (leaf_type_of a) ∙ ap (λ (k : Leaf). leaf_type k (zone_of a)) e

-- ---- codes

pub record Coded (low high code : ℕ) (k : Leaf) : Type 0 where
  pub from : low ≤ code
  pub below : code < high
  pub stands : plain_leaf code ≡ Known k

pub integer-coded : (i : Integer) → Coded 2 10 (integer_code i) (Leaf.Integer i)
integer-coded Int8 = record { from = omega arith; below = omega arith; stands = refl }
integer-coded Int16 = record { from = omega arith; below = omega arith; stands = refl }
integer-coded Int32 = record { from = omega arith; below = omega arith; stands = refl }
integer-coded Int64 = record { from = omega arith; below = omega arith; stands = refl }
integer-coded UInt8 = record { from = omega arith; below = omega arith; stands = refl }
integer-coded UInt16 = record { from = omega arith; below = omega arith; stands = refl }
integer-coded UInt32 = record { from = omega arith; below = omega arith; stands = refl }
integer-coded UInt64 = record { from = omega arith; below = omega arith; stands = refl }

pub float-coded : (f : Format) → Coded 10 13 (float_code f) (Leaf.Float f)
float-coded Binary16 = record { from = omega arith; below = omega arith; stands = refl }
float-coded Binary32 = record { from = omega arith; below = omega arith; stands = refl }
float-coded Binary64 = record { from = omega arith; below = omega arith; stands = refl }

-- ---- a code that is a whole type

-- it is none of the others
pub other-code : (code n : ℕ) {k : Leaf} → plain_leaf n ≡ Unknown → plain_leaf code ≡ Known k → eqb code n ≡ false
other-code code n {k} e f = ne_eqb code n (λ h. let z : Unknown ≡ Known k = sym e ∙ ap plain_leaf (sym h) ∙ f in clash (cc))

pub plain-kind : (code : ℕ) {k : Leaf} (s : Bytes) (at : ℕ) → plain_leaf code ≡ Known k → kind_of code s at ≡ ok (a_leaf (leaf_type k [])) at
unfolding kind_of choose leaf_head
plain-kind code s at h =
    rw (other-code code 14 refl h, other-code code 18 refl h, other-code code 19 refl h, other-code code 20 refl h, other-code code 21 refl h, h)
