-- `defaults::read::find_entry` meets its contract: the loop keeps `Following`. Assumes nothing.
use native.Mathlib.Omega.{arith}
use Rattle.defaults.proofs.Indexing.{following_none, following_all, following-end, following-broken, following-found, following-more}
use borrow.Author.Rules.{rules}
use Rattle.defaults.proofs.read.find_entry.Goals as goal

pub loop-i-init : goal.loop-i-init
loop-i-init c =
    search (following_none, rules)

pub returns-then-x-eq0 : goal.returns-then-x-eq0
returns-then-x-eq0 c =
    search (following-end, rules)

pub returns-then-is_of : goal.returns-then-is_of
returns-then-is_of c =
    search (following-found, rules)

pub returns-in-Refused : goal.returns-in-Refused
returns-in-Refused c =
    search (following-broken, rules)

pub overflow_add-i : goal.overflow_add-i
overflow_add-i c =
    omega arith

pub loop-i-smaller : goal.loop-i-smaller
loop-i-smaller c =
    omega arith

pub loop-i-preserved : goal.loop-i-preserved
loop-i-preserved c =
    search (following-more, rules)

pub returns : goal.returns
returns c =
    search (following_all, rules)
