-- `layout::seen::hash_bytes` meets its contract. Assumes nothing.
use native.Mathlib.Omega.{arith}
use Rattle.layout.proofs.Noting.{hashing_none, hashing_more, hashing_last, hashing_all}
use Rattle.layout.proofs.seen.hash_bytes.Goals as goal

pub loop-i-init : goal.loop-i-init
loop-i-init c =
    hashing_none _ _

pub overflow_add-i-in-loop-i-2 : goal.overflow_add-i-in-loop-i-2
overflow_add-i-in-loop-i-2 c =
    omega arith

pub loop-i-smaller : goal.loop-i-smaller
loop-i-smaller c =
    omega arith

pub loop-i-preserved : goal.loop-i-preserved
loop-i-preserved c =
    search hashing_more

pub returns-then-i-b : goal.returns-then-i-b
returns-then-i-b c =
    search hashing_last

pub returns : goal.returns
returns c =
    search hashing_all
