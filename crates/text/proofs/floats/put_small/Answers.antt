-- `text::floats::put_small` meets its contract. It ends, since a fraction that is not 0 grows tenfold with each zero
-- and stays below 1. Assumes nothing.
use native.Mathlib.Omega.{arith}
use Rattle.text.proofs.Digits.{closer, still_some}
use Rattle.text.proofs.floats.put_small.Goals as goal

pub loop-d-smaller : goal.loop-d-smaller
loop-d-smaller g c =
    closer c.loop-d.a c.loop-d.b c.next_digit-d.result.digit c.next_digit-d.result.high c.next_digit-d.result.low (omega arith) c.next_digit-d.ensures.low_value c.loop-d.invariant.1 c.next_digit-d.ensures.words

pub loop-d-preserved : goal.loop-d-preserved
loop-d-preserved g c =
    (c.next_digit-d.ensures.words, still_some c.loop-d.a c.loop-d.b c.next_digit-d.result.digit c.next_digit-d.result.high c.next_digit-d.result.low (omega arith) c.next_digit-d.ensures.low_value c.loop-d.invariant.1)
