-- `rules::lossless::holds_signed` meets its contract: on each range of targets the range rule is computed once.
use native.Mathlib.Omega.{arith}
use Rattle.rules.specs.Promotion.{promotes}
use Rattle.rules.proofs.Interval.{holds_on, fails_on, fails_off}
use Rattle.layout.proofs.Keys.{none}
use Rattle.rules.proofs.lossless.holds_signed.Goals as goal

pub returns-in-2-to-5 : goal.returns-in-2-to-5
returns-in-2-to-5 c =
    rw c.in-2.is (holds_on (promotes 2) 2 4 c.args.target tt (omega arith) (omega arith))

pub returns-in_default-target : goal.returns-in_default-target
returns-in_default-target c =
    rw c.in-2.is (fails_on (promotes 2) 0 2 c.args.target tt (omega arith) (omega arith))

pub returns-in_default-target-5 : goal.returns-in_default-target-5
returns-in_default-target-5 c =
    rw c.in-2.is (fails_on (promotes 2) 6 250 c.args.target tt (omega arith) (omega arith))

pub returns-in-3-to-5 : goal.returns-in-3-to-5
returns-in-3-to-5 c =
    rw c.in-3.is (holds_on (promotes 3) 3 3 c.args.target tt (omega arith) (omega arith))

pub returns-in_default-target-2 : goal.returns-in_default-target-2
returns-in_default-target-2 c =
    rw c.in-3.is (fails_on (promotes 3) 0 3 c.args.target tt (omega arith) (omega arith))

pub returns-in_default-target-2-2 : goal.returns-in_default-target-2-2
returns-in_default-target-2-2 c =
    rw c.in-3.is (fails_on (promotes 3) 6 250 c.args.target tt (omega arith) (omega arith))

pub returns-in-4-to-5 : goal.returns-in-4-to-5
returns-in-4-to-5 c =
    rw c.in-4.is (holds_on (promotes 4) 4 2 c.args.target tt (omega arith) (omega arith))

pub returns-in_default-target-3 : goal.returns-in_default-target-3
returns-in_default-target-3 c =
    rw c.in-4.is (fails_on (promotes 4) 0 4 c.args.target tt (omega arith) (omega arith))

pub returns-in_default-target-3-2 : goal.returns-in_default-target-3-2
returns-in_default-target-3-2 c =
    rw c.in-4.is (fails_on (promotes 4) 6 250 c.args.target tt (omega arith) (omega arith))

pub returns-in_default-target-4 : goal.returns-in_default-target-4
returns-in_default-target-4 c =
    rw c.in-5.is
    (fails_off (promotes 5) 5 6 250 c.args.target tt tt (none 5 c.args.target 1 c.in_default-target-4.in_default-target-4-own.rest) (omega arith))

pub returns-in_default : goal.returns-in_default
returns-in_default c =
    fails_off (λ x. promotes x c.args.target) 2 6 0 c.args.incoming tt tt
    (none 2 c.args.incoming 4 c.in_default.in_default-own.rest) (omega (arith, c.requires))
