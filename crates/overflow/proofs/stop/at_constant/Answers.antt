-- `overflow::stop::at_constant` meets its contract: found, and run; or not found. Assumes nothing.
use Rattle.overflow.proofs.Stops.{constant-found, constant-not, path_room}
use Rattle.overflow.proofs.Scanning.{sought-present}
use mathlib.Core.Path.{◌∙◌}
use Rattle.overflow.proofs.stop.at_constant.Goals as goal

pub in_constant-requires : goal.in_constant-requires
in_constant-requires c =
    record { raw_in = c.requires.raw_in.0; small_search = (c.requires.raw_in.1.1.deep, path_room c.requires.raw_in.1.1, c.requires.small_want) }

pub returns-then-in_constant : goal.returns-then-in_constant
returns-then-in_constant c =
    λ X x M. constant-found M _ c.args.want (c.in_constant.ensures X ∙ sought-present _ _ _) c.if-in_constant.true (c.ran.ensures x M)

pub returns-else-in_constant : goal.returns-else-in_constant
returns-else-in_constant c =
    λ X x M. constant-not M _ c.args.want (c.in_constant.ensures X ∙ sought-present _ _ _) c.if-in_constant.false
