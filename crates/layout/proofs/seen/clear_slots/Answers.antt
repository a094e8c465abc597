-- `layout::seen::clear_slots` meets its contract. Assumes nothing.
use mathlib.Core.Path.{refl}
use native.Mathlib.Omega.{arith}
use borrow.Author.Rules.{rules}
use Rattle.layout.proofs.seen.clear_slots.Goals as goal

pub loop-k-init : goal.loop-k-init
loop-k-init c =
    (refl, omega arith)

pub returns-then-wanted-k : goal.returns-then-wanted-k
returns-then-wanted-k c =
    omega arith

pub loop-k-preserved : goal.loop-k-preserved
loop-k-preserved c =
    (search rules, omega arith)

pub returns : goal.returns
returns c =
    omega arith
