-- `overflow::want::scaled` meets its contract: past the largest bound, or within it. Assumes nothing.
use Rattle.overflow.proofs.Scaling.{scaled-past, scaled_fits, scaled-within}
use native.Mathlib.Omega.{arith}
use Rattle.overflow.proofs.want.scaled.Goals as goal

pub returns-then-f-a : goal.returns-then-f-a
returns-then-f-a c =
    scaled-past c.args.a c.args.f c.requires c.if-f-a.true

pub overflow_mul-result : goal.overflow_mul-result
overflow_mul-result c =
    let h = scaled_fits c.args.a c.args.f c.requires c.if-f-a.false in omega arith

pub returns : goal.returns
returns c =
    scaled-within c.args.a c.args.f c.requires c.if-f-a.false
