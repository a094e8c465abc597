-- What holds for the content of every leaf. Assumes nothing.
use Prim.Native.Nat.{ℕ, ◌≤◌}
use mathlib.Core.Path.{◌≡◌, ap}
use native.Mathlib.Omega.{arith}
use Rattle.numeric.proofs.Bounds.{integer_bytes-small, float_bytes-small}
use Rattle.layout.specs.declared.leaf.Leaf.{Leaf}
use Rattle.values.specs.Content.{content_of, width_of, width_in}
use Rattle.values.specs.declared.content.Content.{Content}
use Rattle.values.specs.declared.content.Content.TheVariants.{Number}

pub width_small : (k : Leaf) → width_of k ≤ 8
width_small Leaf.Null = omega arith
width_small Leaf.Boolean = omega arith
width_small (Leaf.Integer i) = integer_bytes-small i
width_small (Leaf.Float f) = float_bytes-small f
width_small Leaf.Date = omega arith
width_small (Leaf.Datetime u) = omega arith
width_small Leaf.String = omega arith
width_small Leaf.Binary = omega arith
width_small Leaf.Categorical = omega arith
width_small (Leaf.Decimal d) = omega arith

-- so a number takes at most eight bytes
pub number_small : (k : Leaf) {w : ℕ} → content_of k ≡ Number w → w ≤ 8
number_small k {w} e = let h : width_of k ≡ w = ap (λ (c : Content). width_in c) e in omega (arith, h, width_small k)
