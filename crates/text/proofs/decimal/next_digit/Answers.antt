-- `text::decimal::next_digit` meets its contract. Ten times a word fits, and `step` gives the equation. Assumes
-- nothing.
use borrow.Author.Rules.{rules}
use Prim.Native.Nat.{◌+◌, ◌*◌, ◌/◌, ◌%◌}
use native.Mathlib.Nat.{div-add-mod'}
use native.Mathlib.Omega.{arith}
use Rattle.text.specs.code.Decimal.{word, one, count}
use Rattle.text.proofs.Digits.{step}
use Rattle.text.proofs.decimal.next_digit.Goals as goal

pub returns : goal.returns
returns c =
    unfold one count in let l = 10 * c.args.low in let h = 10 * c.args.high + l / word in record { low_value = step word c.args.high c.args.low (l / word) (l % word) (h / word) (h % word) (div-add-mod' l word) (div-add-mod' h word); digit_bound = omega arith; words = search rules }
