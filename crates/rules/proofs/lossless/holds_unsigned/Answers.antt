-- `rules::lossless::holds_unsigned` meets its contract: on each range of targets the range rule is computed once.
use native.Mathlib.Omega.{arith}
use Rattle.rules.specs.Promotion.{promotes}
use Rattle.rules.proofs.Interval.{holds_on, fails_on, fails_off}
use Rattle.layout.proofs.Keys.{none}
use Rattle.rules.proofs.lossless.holds_unsigned.Goals as goal

pub returns-in-3-to-9 : goal.returns-in-3-to-9
returns-in-3-to-9 c =
    rw c.in-6.is (holds_on (promotes 6) 3 7 c.args.target tt (omega arith) (omega arith))

pub returns-in_default-target : goal.returns-in_default-target
returns-in_default-target c =
    rw c.in-6.is (fails_on (promotes 6) 0 3 c.args.target tt (omega arith) (omega arith))

pub returns-in_default-target-5 : goal.returns-in_default-target-5
returns-in_default-target-5 c =
    rw c.in-6.is (fails_on (promotes 6) 10 246 c.args.target tt (omega arith) (omega arith))

pub returns-in-4-to-5 : goal.returns-in-4-to-5
returns-in-4-to-5 c =
    rw c.in-7.is (holds_on (promotes 7) 4 2 c.args.target tt (omega arith) (omega arith))

pub returns-in-4-to-5-2 : goal.returns-in-4-to-5-2
returns-in-4-to-5-2 c =
    rw c.in-7.is
    (holds_on (promotes 7) 7 3 c.args.target tt (omega arith) (omega arith))

pub returns-in_default-target-2 : goal.returns-in_default-target-2
returns-in_default-target-2 c =
    rw c.in-7.is (fails_on (promotes 7) 0 4 c.args.target tt (omega arith) (omega arith))

pub returns-in_default-target-2-2 : goal.returns-in_default-target-2-2
returns-in_default-target-2-2 c =
    rw c.in-7.is
    (fails_on (promotes 7) 6 1 c.args.target tt (omega arith) (omega arith))

pub returns-in_default-target-2-3 : goal.returns-in_default-target-2-3
returns-in_default-target-2-3 c =
    rw c.in-7.is
    (fails_on (promotes 7) 10 246 c.args.target tt (omega arith) (omega arith))

pub returns-in_default-target-3 : goal.returns-in_default-target-3
returns-in_default-target-3 c =
    rw c.in-8.is
    (fails_off (promotes 8) 5 6 2 c.args.target tt tt
    (none 5 c.args.target 1 c.in_default-target-3.in_default-own.rest) (omega arith))

pub returns-in_default-target-3-2 : goal.returns-in_default-target-3-2
returns-in_default-target-3-2 c =
    rw c.in-8.is
    (fails_on (promotes 8) 10 246 c.args.target tt (omega arith) (omega arith))

pub returns-in-5-2 : goal.returns-in-5-2
returns-in-5-2 c =
    rw c.in-8.is
    (holds_on (promotes 8) 8 2 c.args.target tt (omega arith) (omega arith))

pub returns-in_default-target-4 : goal.returns-in_default-target-4
returns-in_default-target-4 c =
    rw c.in-9.is
    (fails_off (promotes 9) 9 10 246 c.args.target tt tt (none 9 c.args.target 1 c.in_default-target-4.in_default-target-4-own.rest) (omega arith))

pub returns-in_default : goal.returns-in_default
returns-in_default c =
    fails_on (λ x. promotes x c.args.target) 10 246 c.args.incoming tt
    (none 6 c.args.incoming 4 c.in_default.in_default-own.rest c.requires) (omega arith)
