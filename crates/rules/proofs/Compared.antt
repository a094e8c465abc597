-- How the parameters of two leaves compare, by what they are. Assumes nothing.
use mathlib.Core.Path.{◌≡◌, refl, sym}
use mathlib.Core.Bool.{Bool, true, false, not}
use Rattle.layout.specs.Bytes.{Bytes}
use Rattle.layout.specs.declared.leaf.Leaf.{Leaf}
use Rattle.layout.specs.declared.leaf.Decimal.{Decimal}
use Rattle.rules.specs.declared.params.Params.{Params}
use Rattle.rules.specs.Zones.{zones_of}
use Rattle.rules.specs.Classes.{is_decimal}
use Rattle.rules.specs.Params.{decimals_of, decimal_of, params_of}

-- the code asks whether it is no decimal
is-not : (b : Bool) → not b ≡ true → b ≡ false
is-not true e = sym e
is-not false e = refl

is_so : (b : Bool) → not b ≡ false → b ≡ true
is_so true e = refl
is_so false e = sym e

module _ (i t : Leaf) (z w : Bytes) {r : Params} {b : Bool} (e : b ≡ is_decimal i) where
  pub no_decimal_incoming : not b ≡ true → r ≡ zones_of z w → r ≡ params_of i z t w
  unfolding params_of
  no_decimal_incoming f h = rw (← e, is-not b f) h

  module _ (f : not b ≡ false) {c : Bool} (g : c ≡ is_decimal t) where
    pub no_decimal_target : not c ≡ true → r ≡ zones_of z w → r ≡ params_of i z t w
    unfolding params_of
    no_decimal_target k h = rw (← e, is_so b f, ← g, is-not c k) h

    pub two-decimals : {x y : Decimal} → not c ≡ false → x ≡ decimal_of i → y ≡ decimal_of t → r ≡ decimals_of x y → r ≡ params_of i z t w
    unfolding params_of
    two-decimals k p q h = rw (← e, is_so b f, ← g, is_so c k, ← p, ← q) h
