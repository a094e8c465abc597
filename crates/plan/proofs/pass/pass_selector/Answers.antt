-- `plan::pass::pass_selector` meets its contract: what the table has, or what is read. Assumes nothing.
use Rattle.plan.proofs.Skipping.{skips-none, skip-one}
use Rattle.plan.proofs.pass.pass_selector.Goals as goal

pub returns-then-known-ne0 : goal.returns-then-known-ne0
returns-then-known-ne0 c =
    skip-one (c.known_skip-known.ensures _ c.requires) c.if-known-ne0.true

pub read_one-requires : goal.read_one-requires
read_one-requires c =
    (c.requires, skips-none 1)
