-- Which line of the chain gave the verdict, with what its tests showed.
use mathlib.Core.Path.{◌≡◌, refl}
use mathlib.Core.Bool.{Bool, true, false, ◌&&◌, ◌||◌}
use Prim.Native.Nat.{ℕ}
use Rattle.layout.specs.declared.leaf.Leaf.{Leaf}
use Rattle.rules.specs.declared.policy.Policy.{Policy}
use Rattle.rules.specs.declared.params.Params.{Params}
use Rattle.rules.specs.declared.outcome.CastOption.{CastOption}
use Rattle.rules.specs.declared.outcome.CastOption.TheVariants.{NonStrict, Overflowing}
use Rattle.rules.specs.code.Choice.{when◌then◌else◌}
use Rattle.rules.specs.Outcomes.{Verdict, untouched, refused, cast, need}
use Rattle.rules.specs.Params.{same_as_utc, widened}
use Rattle.rules.specs.Classes.{is_null, is_integer, is_float, is_datetime, unit, is_categorical, is_string, is_decimal}
use Rattle.rules.specs.Promotion.{holds}
use Rattle.rules.specs.Chain.{same_type, wider, unit_allowed, unit_option, chain}

pub data Way (z : Params) (i t : Leaf) : Verdict → Type 0 where
  way_same : same_type z i t ≡ true → Way z i t untouched
  way_refused : (n : ℕ) → Way z i t (refused n)
  way_null : same_type z i t ≡ false → is_null i ≡ true → Way z i t (cast NonStrict)
  way_integers : same_type z i t ≡ false → (is_integer i && is_integer t) ≡ true → holds t i ≡ true → Way z i t (cast Overflowing)
  way_floats : same_type z i t ≡ false → (is_float i && is_float t) ≡ true → Way z i t (cast NonStrict)
  way_integer-float : (is_integer i && is_float t) ≡ true → Way z i t (cast Overflowing)
  way_datetimes : {o : CastOption} → same_type z i t ≡ false → (is_datetime i && is_datetime t) ≡ true → o ≡ unit_option (unit i) (unit t) → Way z i t (cast o)
  way_category : (is_categorical i && is_string t) ≡ true → Way z i t (cast NonStrict)
  way_decimals : (is_decimal i && is_decimal t && widened z) ≡ true → Way z i t (cast NonStrict)

module _ {z : Params} {i t : Leaf} where
  by_test : (c : Bool) {v w : Verdict} → (c ≡ true → Way z i t v) → (c ≡ false → Way z i t w) → Way z i t (when c then v else w)
  by_test true f g = f refl
  by_test false f g = g refl

  by-need : (c : Bool) (n : ℕ) {v : Verdict} → (c ≡ true → Way z i t v) → Way z i t (need c n v)
  by-need c n f = by_test c f (λ e. way_refused n)

pub way : (p : Policy) (z : Params) (i t : Leaf) → Way z i t (chain p z i t)
unfolding chain
way p z i t =
    by_test (same_type z i t) (λ s. way_same s) (λ s.
    by_test (is_null i) (λ n. by-need p.null_upcast 15 (λ f. way_null s n)) (λ n.
    by_test (is_integer i && is_integer t) (λ k. by-need p.integer_upcast 16 (λ f. by-need (holds t i) 17 (λ h. way_integers s k h))) (λ k.
    by_test (is_float i && is_float t && wider t i) (λ w. by-need p.float_upcast 18
    (λ f. way_floats s (first_two (is_float i) (is_float t) (wider t i) w))) (λ w.
    by_test (is_float i && is_float t) (λ k. by-need p.float_downcast 19 (λ f. way_floats s k)) (λ w.
    by_test (is_integer i && is_float t) (λ k. by-need p.integer_to_float_cast 20 (λ f. way_integer-float k)) (λ w.
    by_test (is_datetime i && is_datetime t)
    (λ k. by-need (p.datetime_convert_timezone || same_as_utc z) 21 (λ f. by-need (unit_allowed p (unit i) (unit t)) 22 (λ g. way_datetimes s k refl))) (λ w.
    by_test (is_categorical i && is_string t) (λ k. by-need p.categorical_to_string 23 (λ f. way_category k)) (λ w.
    by_test (is_decimal i && is_decimal t && widened z) (λ k. by-need p.decimal_widening 51 (λ f. way_decimals k)) (λ w.
    way_refused 24)))))))))
  where
    first_two : (a b c : Bool) → (a && b && c) ≡ true → (a && b) ≡ true
    first_two true true c e = refl
    first_two true false c e = e
    first_two false b c e = e
