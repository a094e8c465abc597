use Rattle.output.proofs.Emitting.{Rowing}
use Rattle.output.specs.code.Answers.{EmitAt, Mapped}
use Rattle.walk.specs.code.Walks.{rank}
use Rattle.walk.specs.code.Children.{Reached}
use Rattle.walk.specs.declared.walk.Walk.{Walk}
use Rattle.layout.specs.Bytes.{Bytes}
use Rattle.layout.specs.declared.edition.Edition.{Edition}
use Rattle.walk.specs.code.Values.{state_value}
use Rattle.plan.specs.Reach.{parts}
use Rattle.values.specs.Value.{count_values}
use lib.ListN.{length}
use mathlib.Core.Path.{◌≡◌}
use Prim.Native.Nat.{◌+◌, ◌*◌, ◌-◌, ℕ}
use Rattle.output.proofs.emit.+emit_emit_mapping.Given as goal

-- how many parts there are
abbrev pub count : {v : Edition} {lay : Bytes} {n t : ℕ} {rec plan : Bytes} {w : Walk} → EmitAt v lay n t rec plan w → ℕ
count A = count_values (parts (state_value A.row.values.values A.state))

abbrev pub decreases-emit : goal.decreases-emit
decreases-emit l = 2 * rank l.w + 1

abbrev pub decreases-emit_mapping : goal.decreases-emit_mapping
decreases-emit_mapping l = 2 * rank l.w

abbrev pub invariant-emit_mapping-loop-i : goal.invariant-emit_mapping-loop-i
invariant-emit_mapping-loop-i l = ((A : EmitAt l.columns.edition l.lay l.columns.count l.columns.first.at l.rec l.plan l.w) × Mapped A.state × (l.m ≡ count A))
    × Reached l.plan l.w.at l.i l.c.at × (length l.out ≡ length l.initial.out)
    × ((A : EmitAt l.columns.edition l.lay l.columns.count l.columns.first.at l.rec l.plan l.w) → Mapped A.state → l.m ≡ count A
    → Rowing (parts (state_value A.row.values.values A.state)) l.initial.out l.initial.at l.i l.at l.out)

abbrev pub decreases-emit_mapping-loop-i : goal.decreases-emit_mapping-loop-i
decreases-emit_mapping-loop-i l = l.m - l.i
