-- The pairs of leaf types that some policy casts, with the option of each; a policy with every flag on casts them all.
use mathlib.Core.Path.{◌≡◌, refl, sym, ap, ap₂, subst, ◌∙◌}
use mathlib.Core.Bool.{Bool, true, false, not, ◌&&◌, true≢false}
use Rattle.layout.specs.Bytes.{Bytes}
use Rattle.layout.specs.Tree.{LeafType, leaf_of, null, datetime, string, categorical, decimal}
use Rattle.layout.specs.declared.leaf.TimeUnit.{TimeUnit}
use Rattle.layout.specs.declared.leaf.Leaf.{Leaf}
use Rattle.layout.specs.declared.leaf.Decimal.{Decimal}
use Rattle.rules.specs.declared.policy.Policy.{Policy}
use Rattle.rules.specs.declared.params.Params.{Params}
use Rattle.rules.specs.declared.params.Params.TheVariants.{Identical, SameAsUtc, Widened, Different}
use Rattle.rules.specs.declared.outcome.CastOption.{CastOption}
use Rattle.rules.specs.declared.outcome.CastOption.TheVariants.{NonStrict, Overflowing}
use Rattle.rules.specs.Policies.{all_on}
use Rattle.rules.specs.Outcomes.{cast}
use Rattle.rules.specs.Params.{widens, decimals_of, params_of, widened}
use Rattle.rules.specs.Classes.{is_integer, is_float, is_datetime, unit, is_categorical, is_decimal}
use Rattle.rules.specs.Promotion.{holds}
use Rattle.rules.specs.Chain.{same_type, unit_option, chain}
use Rattle.rules.specs.Pairs.{pair_rule, has_option, cast_passes}
use Rattle.rules.proofs.OfClass.{where_pair, null-type, string-type, categorical-type, datetime-type, decimal-type}
use Rattle.rules.proofs.Way.{Way, way, way_null, way_integers, way_floats, way_integer-float, way_datetimes, way_category, way_decimals}
use Rattle.rules.proofs.Options.{has_option_lem, option-has}
use Rattle.rules.proofs.PairRule.{params, params_decimals, widened-widens, same_leaf_type_lem, same_type_ne, cast_unequal, null_rule}

pub data Casts : LeafType → LeafType → CastOption → Type 0 where
  from_null : {t : LeafType} → (null ≡ t → ⊥) → Casts null t NonStrict
  integer-to-integer : {i t : LeafType} → (i ≡ t → ⊥) → is_integer (leaf_of i) ≡ true → is_integer (leaf_of t) ≡ true → holds (leaf_of t) (leaf_of i) ≡ true →
      Casts i t Overflowing
  integer_to_float_lem : {i t : LeafType} → is_integer (leaf_of i) ≡ true → is_float (leaf_of t) ≡ true → Casts i t Overflowing
  float_to_float_lem : {i t : LeafType} → (i ≡ t → ⊥) → is_float (leaf_of i) ≡ true → is_float (leaf_of t) ≡ true → Casts i t NonStrict
  datetime-to-datetime : {u v : TimeUnit} {z w : Bytes} {o : CastOption} → (datetime u z ≡ datetime v w → ⊥) → o ≡ unit_option u v → Casts (datetime u z)
      (datetime v w) o
  category_to-string : Casts categorical string NonStrict
  decimal-to-decimal : {d e : Decimal} → widens d e ≡ true → Casts (decimal d) (decimal e) NonStrict

both_left : (a b : Bool) → (a && b) ≡ true → a ≡ true
both_left true b e = refl
both_left false b e = e

both_right : (a b : Bool) → (a && b) ≡ true → b ≡ true
both_right true b e = e
both_right false b e = absurd (true≢false (sym e))

-- a fact of two leaf types at other names of them
named : {o : CastOption} {i t a b : LeafType} → i ≡ a → t ≡ b → Casts a b o → Casts i t o
named {o} {i} {t} {a} {b} e f c = subst (λ (x : LeafType). Casts x t o) (sym e) (subst (λ (y : LeafType). Casts a y o) (sym f) c)

-- what a policy casts
pub casts : (p : Policy) (i t : LeafType) (o : CastOption) → pair_rule p i t ≡ cast o → Casts i t o
unfolding pair_rule
casts p i t o e =
    go o (cast_unequal p i t o e)
    (subst (Way (params i t) (leaf_of i) (leaf_of t)) e (way p (params i t) (leaf_of i) (leaf_of t)))
  where
    go : (o : CastOption) → (i ≡ t → ⊥) → Way (params i t) (leaf_of i) (leaf_of t) (cast o) → Casts i t o
    go o ne (way_null s n) = named (null-type i n) refl (from_null (λ q. ne (null-type i n ∙ q)))
    go o ne (way_integers s k h) = integer-to-integer ne (both_left (is_integer (leaf_of i)) _ k) (both_right (is_integer (leaf_of i)) _ k) h
    go o ne (way_floats s k) = float_to_float_lem ne (both_left (is_float (leaf_of i)) _ k) (both_right (is_float (leaf_of i)) _ k)
    go o ne (way_integer-float k) = integer_to_float_lem (both_left (is_integer (leaf_of i)) _ k) (both_right (is_integer (leaf_of i)) _ k)
    go o ne (way_datetimes s k q) =
        let e = datetime-type i (both_left (is_datetime (leaf_of i)) _ k) in
        let f = datetime-type t (both_right (is_datetime (leaf_of i)) _ k) in
        named e f (datetime-to-datetime (λ r. ne (e ∙ r ∙ sym f)) q)
    go o ne (way_category k) =
        named (categorical-type i (both_left (is_categorical (leaf_of i)) _ k)) (string-type t (both_right (is_categorical (leaf_of i)) _ k)) category_to-string
    go o ne (way_decimals k) =
        let both = both_left (is_decimal (leaf_of i) && is_decimal (leaf_of t)) _ k in
        let a = both_left (is_decimal (leaf_of i)) _ both in
        let b = both_right (is_decimal (leaf_of i)) _ both in
        let w = both_right (is_decimal (leaf_of i) && is_decimal (leaf_of t)) _ k in
        named (decimal-type i a) (decimal-type t b) (decimal-to-decimal (widened-widens _ _ (sym (ap widened (params_decimals i t a b)) ∙ w)))

-- ---- with every flag on

-- two types of an integer or float pair that are not equal, and the chain there: computed at each pair, whatever the
-- zones
integers-cast : (z : Params) (i t : Leaf) → (is_integer i && is_integer t && holds t i && not (same_type z i t)) ≡ true → chain all_on z i t ≡ cast Overflowing
unfolding chain
integers-cast z = where_pair (λ i t. is_integer i && is_integer t && holds t i && not (same_type z i t)) (chain all_on z) (λ i t. cast Overflowing) (λ d e. refl)

integer-float-cast : (z : Params) (i t : Leaf) → (is_integer i && is_float t) ≡ true → chain all_on z i t ≡ cast Overflowing
unfolding chain
integer-float-cast z = where_pair (λ i t. is_integer i && is_float t) (chain all_on z) (λ i t. cast Overflowing) (λ d e. refl)

floats_cast : (z : Params) (i t : Leaf) → (is_float i && is_float t && not (same_type z i t)) ≡ true → chain all_on z i t ≡ cast NonStrict
unfolding chain
floats_cast z = where_pair (λ i t. is_float i && is_float t && not (same_type z i t)) (chain all_on z) (λ i t. cast NonStrict) (λ d e. refl)

datetimes-cast : (z : Params) (i t : Leaf) → (is_datetime i && is_datetime t && not (same_type z i t)) ≡ true → chain all_on z i t ≡ cast
    (unit_option (unit i) (unit t))
unfolding chain
datetimes-cast Identical = where_pair (λ i t. is_datetime i && is_datetime t && not (same_type Identical i t)) (chain all_on Identical)
    (λ i t. cast (unit_option (unit i) (unit t))) (λ d e. refl)
datetimes-cast SameAsUtc = where_pair (λ i t. is_datetime i && is_datetime t && not (same_type SameAsUtc i t)) (chain all_on SameAsUtc)
    (λ i t. cast (unit_option (unit i) (unit t))) (λ d e. refl)
datetimes-cast Different = where_pair (λ i t. is_datetime i && is_datetime t && not (same_type Different i t)) (chain all_on Different)
    (λ i t. cast (unit_option (unit i) (unit t))) (λ d e. refl)
datetimes-cast Widened = where_pair (λ i t. is_datetime i && is_datetime t && not (same_type Widened i t)) (chain all_on Widened)
    (λ i t. cast (unit_option (unit i) (unit t))) (λ d e. refl)

category_cast : (z : Params) → chain all_on z Leaf.Categorical Leaf.String ≡ cast NonStrict
unfolding chain
category_cast z = refl

decimals-cast : (d e : Decimal) → widens d e ≡ true → pair_rule all_on (decimal d) (decimal e) ≡ cast NonStrict
unfolding pair_rule chain params_of decimals_of
decimals-cast d e h = rw h

differ : (i t : LeafType) → (i ≡ t → ⊥) → not (same_leaf_type_lem i t) ≡ true
differ i t ne = ap not (same_type_ne i t ne)

pub casts-allowed : (i t : LeafType) (o : CastOption) → Casts i t o → pair_rule all_on i t ≡ cast o
unfolding pair_rule
casts-allowed i t o (from_null ne) = null_rule all_on t ne
casts-allowed i t o (integer-to-integer ne a b h) = integers-cast _ (leaf_of i) (leaf_of t) (ap₂ ◌&&◌ (ap₂ ◌&&◌ (ap₂ ◌&&◌ a b) h) (differ i t ne))
casts-allowed i t o (integer_to_float_lem a b) = integer-float-cast _ (leaf_of i) (leaf_of t) (ap₂ ◌&&◌ a b)
casts-allowed i t o (float_to_float_lem ne a b) = floats_cast _ (leaf_of i) (leaf_of t) (ap₂ ◌&&◌ (ap₂ ◌&&◌ a b) (differ i t ne))
casts-allowed i t o (datetime-to-datetime ne q) = datetimes-cast _ (leaf_of i) (leaf_of t) (differ i t ne) ∙ ap cast (sym q)
casts-allowed i t o category_to-string = category_cast _
casts-allowed i t o (decimal-to-decimal {d} {e} h) = decimals-cast d e h

-- the check passes just these
pub passes-casts : (i t : LeafType) (o : CastOption) → cast_passes i t o ≡ true → Casts i t o
unfolding cast_passes
passes-casts i t o e = casts all_on i t o (has_option_lem o (pair_rule all_on i t) e)

pub casts-pass : (i t : LeafType) (o : CastOption) → Casts i t o → cast_passes i t o ≡ true
unfolding cast_passes
casts-pass i t o c = ap (has_option o) (casts-allowed i t o c) ∙ option-has o
