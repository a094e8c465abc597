-- `layout::bytes::same_bytes` meets its contract: the loop keeps `Matched`. Assumes nothing.
use native.Mathlib.Omega.{arith}
use Rattle.layout.proofs.Same.{matched-none, matched-more, matched-differs, matched-short, matched-all}
use Rattle.layout.proofs.bytes.same_bytes.Goals as goal

pub loop-i-init : goal.loop-i-init
loop-i-init c =
    matched-none _ _

pub returns-then-b-i : goal.returns-then-b-i
returns-then-b-i c =
    search matched-short

pub bounds-a-i : goal.bounds-a-i
bounds-a-i c =
    omega arith

pub bounds-b-i : goal.bounds-b-i
bounds-b-i c =
    omega arith

pub returns-then-a-i : goal.returns-then-a-i
returns-then-a-i c =
    search matched-differs

pub overflow_add-i : goal.overflow_add-i
overflow_add-i c =
    omega arith

pub loop-i-smaller : goal.loop-i-smaller
loop-i-smaller c =
    omega arith

pub loop-i-preserved : goal.loop-i-preserved
loop-i-preserved c =
    search matched-more

pub returns : goal.returns
returns c =
    search matched-all
