use Rattle.builder.proofs.Missing.{Defaulting}
use Prim.Native.Nat.{◌+◌, ◌-◌, ◌*◌}
use Rattle.defaults.specs.Lookup.{get_default_value}
use Rattle.defaults.specs.code.Stands.{TableAt}
use Rattle.builder.proofs.default.+build_iceberg_default_value_put_defaults.Given as goal

abbrev pub decreases-build_iceberg_default_value : goal.decreases-build_iceberg_default_value
decreases-build_iceberg_default_value l = 2 * l.depth

abbrev pub decreases-put_defaults : goal.decreases-put_defaults
decreases-put_defaults l = 2 * l.depth + 1

abbrev pub invariant-put_defaults-loop-i : goal.invariant-put_defaults-loop-i
invariant-put_defaults-loop-i l = (T : TableAt l.table l.build.defaults) → Defaulting (get_default_value T.entries l.build.defaults.source_index) l.v l.depth l.target l.n l.initial.c.at l.initial.out l.k l.out
    l.c.at l.to l.any l.filled l.i

abbrev pub decreases-put_defaults-loop-i : goal.decreases-put_defaults-loop-i
decreases-put_defaults-loop-i l = l.n - l.i
