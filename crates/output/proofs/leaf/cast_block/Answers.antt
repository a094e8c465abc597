use Rattle.output.proofs.Casting.{casting_to, block_all, block_number, block_overflow}
use native.Mathlib.Omega.{arith}
use Rattle.output.proofs.leaf.cast_block.Goals as goal

pub loop-m-init : goal.loop-m-init
loop-m-init c =
    (omega arith, λ ks u i K C h. casting_to (omega arith) C)

pub loop-m-preserved : goal.loop-m-preserved
loop-m-preserved c =
    let (a, f) = c.loop-m.invariant in (
      omega (arith, c.loop-m-test.true),
      λ ks u i K C h. block_number K (f ks u i K C h) h c.requires c.loop-m-test.true _ c.convert_leaf.ensures c.in-Number.is,
    )

pub returns-in-Overflow : goal.returns-in-Overflow
returns-in-Overflow c =
    λ ks u i K C h.
    let D = c.loop-m.invariant.1 ks u i K C h in
    block_overflow K D h c.requires c.loop-m-test.true _ c.convert_leaf.ensures c.in-Overflow.is

pub returns : goal.returns
returns c =
    λ ks u i K C h. block_all K (c.loop-m.invariant.1 ks u i K C h) h c.loop-m.invariant.0 c.loop-m-test.false
