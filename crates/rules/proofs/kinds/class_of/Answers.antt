-- `rules::kinds::class_of` meets its contract: each arm is a case of `class_of`. Assumes nothing.
use Rattle.rules.proofs.kinds.class_of.Goals as goal

pub returns-in-Integer : goal.returns-in-Integer
returns-in-Integer c =
    rw c.in-Integer.is

pub returns-in-Float : goal.returns-in-Float
returns-in-Float c =
    rw c.in-Float.is

pub returns-in-Datetime : goal.returns-in-Datetime
returns-in-Datetime c =
    rw c.in-Datetime.is
