-- `plan::skips::keep_nested` meets its contract: one entry more that is true. Assumes nothing.
use Rattle.plan.proofs.skips.keep_nested.Goals as goal

pub returns-then-is_nested : goal.returns-then-is_nested
returns-then-is_nested c =
    (c.keep_skip.ensures.0 _ c.requires.0 c.requires.1, c.keep_skip.ensures.1)
