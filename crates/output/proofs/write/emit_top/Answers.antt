use Rattle.plan.proofs.Skipping.{skips-none}
use Rattle.output.proofs.write.emit_top.Goals as goal

pub emit_column-requires : goal.emit_column-requires
emit_column-requires c =
    record { skips = skips-none 1; ends = c.requires.ends; emit_top_at = c.requires.emit_top_at; k_le_longest = c.requires.k_le_longest }

pub read_selectors-requires : goal.read_selectors-requires
read_selectors-requires c =
    skips-none 4608
