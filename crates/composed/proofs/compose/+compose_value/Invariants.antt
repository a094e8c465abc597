use Prim.Native.Nat.{◌-◌}
use Rattle.composed.proofs.compose.+compose_value.Given as goal

abbrev pub decreases-compose_value : goal.decreases-compose_value
decreases-compose_value l = l.leaf.at - l.c.at
