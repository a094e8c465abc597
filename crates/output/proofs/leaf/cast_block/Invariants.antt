use Rattle.output.specs.code.Chain.{Kept, Casting}
use Rattle.values.specs.Value.{Value, vnumber}
use Rattle.layout.specs.declared.leaf.Leaf.{Leaf}
use mathlib.Core.List.{List}
use Prim.Native.Nat.{ℕ, ◌-◌, ◌≤◌}
use Rattle.output.proofs.leaf.cast_block.Given as goal

abbrev pub invariant-loop-m : goal.invariant-loop-m
invariant-loop-m l = (l.m ≤ l.count)
    × ((ks : List Leaf) (u : Value) (i : ℕ) → Kept ks i 0 l.kinds → Casting ks u i (vnumber l.initial.k l.initial.x) → l.count ≤ i → Casting ks u (i - l.m) (vnumber l.k l.x))

abbrev pub decreases-loop-m : goal.decreases-loop-m
decreases-loop-m l = l.count - l.m
