-- `rules::outcome::option_of_code` meets its contract: an arm is a place in the list of options; the default is past
-- the last place.
use mathlib.Core.Path.{sym}
use Prim.Native.Nat.{zero-le}
use lib.ListN.{get_or-eq_default}
use Rattle.rules.specs.declared.outcome.OptionCode.TheVariants.{Unknown}
use Rattle.rules.specs.Outcomes.{options}
use Rattle.layout.proofs.Keys.{none}
use Rattle.rules.proofs.outcome.option_of_code.Goals as goal

pub returns-in-0 : goal.returns-in-0
returns-in-0 c =
    rw c.in-0.is

pub returns-in-1 : goal.returns-in-1
returns-in-1 c =
    rw c.in-1.is

pub returns-in-2 : goal.returns-in-2
returns-in-2 c =
    rw c.in-2.is

pub returns-in_default : goal.returns-in_default
returns-in_default c =
    sym (get_or-eq_default options Unknown (none 0 c.args.code 3 c.in_default.in_default-own.rest zero-le))
