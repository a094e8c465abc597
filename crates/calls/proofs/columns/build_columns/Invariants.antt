use lib.ListN.{length, take}
use mathlib.Core.Path.{◌≡◌}
use Prim.Native.Nat.{◌-◌}
use Rattle.layout.specs.Limits.{deepest}
use Rattle.layout.specs.code.Stands.{ColumnsAt}
use Rattle.defaults.specs.Lookup.{get_default_value}
use Rattle.defaults.specs.code.Stands.{TableAt}
use Rattle.calls.proofs.Building.{Building}
use Rattle.calls.proofs.columns.build_columns.Given as goal

abbrev pub invariant-loop-i : goal.invariant-loop-i
invariant-loop-i l = ((T : TableAt l.table l.build.defaults) (P : ColumnsAt l.build.incoming deepest l.incoming l.among.count l.among.first.at)
    → Building l.build.policy (get_default_value T.entries l.build.defaults.source_index) P.columns l.build.matching l.w l.target l.m l.initial.c.at l.initial.out 7
    l.out l.c.at l.to l.i)
    × (take l.used l.arena ≡ take l.used l.initial.arena) × (length l.arena ≡ length l.initial.arena)

abbrev pub decreases-loop-i : goal.decreases-loop-i
decreases-loop-i l = l.m - l.i
