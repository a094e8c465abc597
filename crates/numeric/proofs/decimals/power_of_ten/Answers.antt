-- `numeric::decimals::power_of_ten` meets its contract: one test over the table. Assumes nothing.
use Rattle.numeric.proofs.Entries.{at}
use lib.ListN.{get_or}
use lib.Dec.{eqb, eqb→eq}
use native.Mathlib.Omega.{arith}
use native.Mathlib.Nat.{one-le-pow, zero-lt-suc}
use mathlib.Core.Path.{◌≡◌}
use Prim.Native.Nat.{ℕ, ◌^◌, ◌<◌}
use mathlib.Core.Bool.{Bool}
use mathlib.Core.List.{List, [], ◌∷◌}
use Rattle.numeric.proofs.decimals.power_of_ten.Goals as goal

powers : List ℕ
powers =
    1 ∷ 10 ∷ 100 ∷ 1000 ∷ 10000 ∷ 100000 ∷ 1000000 ∷ 10000000 ∷ 100000000 ∷ 1000000000 ∷ 10000000000 ∷ 100000000000
    ∷ 1000000000000 ∷ 10000000000000 ∷ 100000000000000 ∷ 1000000000000000 ∷ 10000000000000000 ∷ 100000000000000000
    ∷ 1000000000000000000 ∷ []

right : ℕ → ℕ → Bool
right k x = eqb x (10 ^ k)

is-power : (p : ℕ) → p < 19 → get_or powers p 0 ≡ 10 ^ p
unfolding powers right
is-power p h = eqb→eq (get_or powers p 0) (10 ^ p) (at right powers tt p h)

positive : (p : ℕ) → 0 < 10 ^ p
positive p = one-le-pow p 10 (zero-lt-suc 9)

pub returns : goal.returns
unfolding powers
returns c =
    let e = is-power c.args.p (omega arith) in
    (e, omega (arith, e, positive c.args.p))
