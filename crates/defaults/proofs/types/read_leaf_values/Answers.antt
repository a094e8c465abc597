-- `defaults::types::read_leaf_values` meets its contract: the loop keeps `Repeating`. Assumes nothing.
use borrow.Author.Rules.{rules}
use native.Mathlib.Omega.{arith}
use Rattle.defaults.proofs.Ways.{repeating_none, repeating_all, repeating-stopped, repeating-more}
use Rattle.defaults.proofs.types.read_leaf_values.Goals as goal

pub loop-i-init : goal.loop-i-init
loop-i-init c =
    search (repeating_none, rules)

pub returns-in-Refused : goal.returns-in-Refused
returns-in-Refused c =
    search repeating-stopped

pub overflow_add-i : goal.overflow_add-i
overflow_add-i c =
    omega arith

pub loop-i-smaller : goal.loop-i-smaller
loop-i-smaller c =
    omega arith

pub loop-i-preserved : goal.loop-i-preserved
loop-i-preserved c =
    search repeating-more

pub returns : goal.returns
returns c =
    repeating_all _ _ _ _ _ _ c.loop-i.invariant c.loop-i-test.false
