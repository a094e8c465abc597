-- `calls::build::build_by_number` meets its contract. Assumes nothing.
use native.Mathlib.Omega.{arith}
use Rattle.calls.proofs.build.build_by_number.Goals as goal

pub build_numbered-requires : goal.build_numbered-requires
build_numbered-requires c =
    λ h. omega (arith, h, c.if-defaults-le1024.true)

pub build_numbered-requires-2 : goal.build_numbered-requires-2
build_numbered-requires-2 c =
    λ h. omega (arith, h)
