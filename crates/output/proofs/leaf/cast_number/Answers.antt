use Rattle.output.proofs.Casting.{casting_none, casting_all, cast_number, cast-overflow}
use native.Mathlib.Omega.{arith}
use Rattle.output.proofs.leaf.cast_number.Goals as goal

pub loop-i-init : goal.loop-i-init
loop-i-init c =
    (c.requires.walk_at, λ y z ks W p e. casting_none ks _ e)

pub last_kinds-kinds-requires : goal.last_kinds-kinds-requires
last_kinds-kinds-requires c =
    record { skips = c.requires.skips; walk_at = c.loop-i.invariant.0 }

pub cast_block-requires : goal.cast_block-requires
cast_block-requires c =
    c.block_of-count.ensures.0

pub overflow_sub-i : goal.overflow_sub-i
overflow_sub-i c =
    omega (arith, c.block_of-count.ensures.1)

pub loop-i-smaller : goal.loop-i-smaller
loop-i-smaller c =
    omega (arith, c.loop-i-test.true, c.block_of-count.ensures.1, c.block_of-count.ensures.2 c.loop-i-test.true)

pub loop-i-preserved : goal.loop-i-preserved
loop-i-preserved c =
    let (R, f) = c.loop-i.invariant in (
      R,
      λ y z ks W p e.
          let C = f y z ks W p e in
          cast_number (c.cast_block.ensures ks _ _ (c.last_kinds-kinds.ensures y z ks W p C.within) C c.block_of-count.ensures.1) c.in-Number.is,
    )

pub returns-in-Overflow : goal.returns-in-Overflow
returns-in-Overflow c =
    λ y z ks W p e.
    let C = c.loop-i.invariant.1 y z ks W p e in
    let K = c.last_kinds-kinds.ensures y z ks W p C.within in
    cast-overflow (c.cast_block.ensures ks _ _ K C c.block_of-count.ensures.1) c.in-Overflow.is

pub returns : goal.returns
returns c =
    λ y z ks W p e. casting_all (c.loop-i.invariant.1 y z ks W p e) (omega (arith, c.loop-i-test.false))
