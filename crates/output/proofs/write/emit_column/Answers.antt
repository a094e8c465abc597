use Rattle.output.proofs.Whole.{top_asks, top-emits}
use native.Mathlib.Omega.{arith}
use Rattle.output.proofs.write.emit_column.Goals as goal

pub emit-requires : goal.emit-requires
emit-requires c =
    record { skips = c.requires.skips; ends = c.requires.ends; emit_at = top_asks c.requires.emit_top_at (λ i. omega (arith, c.type_inv.plan i)) c.top-w.ensures; k_le_longest = c.requires.k_le_longest }

pub returns : goal.returns
returns c =
    λ A. top-emits A (λ i. omega (arith, c.type_inv.plan i)) c.top-w.ensures c.emit.ensures
