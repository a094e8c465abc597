-- `rules::policy::Policy::from_word` meets its contract: a field at a time.
use Prim.Native.Nat.{ℕ, ◌/◌}
use mathlib.Core.Path.{◌≡◌}
use native.Mathlib.Omega.{arith}
use Rattle.rules.proofs.policy.Policy.from_word.Goals as goal

-- bit 0 is not divided
by_one : (n : ℕ) → n / 1 ≡ n
by_one n = omega arith

pub returns : goal.returns
returns c =
    rw (c.ignore_if-2.ensures, c.insert_if-2.ensures, c.ignore_if.ensures, c.insert_if.ensures, by_one c.args.word)
