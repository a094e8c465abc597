-- What a policy accepts of a leaf pair, a policy that allows more accepts with the same outcome.
use mathlib.Core.Path.{◌≡◌, refl, subst, sym, ◌∙◌}
use mathlib.Core.Bool.{Bool, true, false, ◌&&◌, ◌||◌}
use Prim.Native.Nat.{ℕ}
use lib.Dec.{T}
use Rattle.layout.specs.Tree.{LeafType, leaf_of, zone_of}
use Rattle.layout.specs.declared.leaf.TimeUnit.{TimeUnit}
use Rattle.layout.specs.declared.leaf.TimeUnit.TheVariants.{Nanoseconds, Microseconds, Milliseconds}
use Rattle.layout.specs.declared.leaf.Leaf.{Leaf}
use Rattle.layout.proofs.Ways.{clash}
use Rattle.rules.specs.declared.policy.Policy.{Policy}
use Rattle.rules.specs.declared.params.Params.{Params}
use Rattle.rules.specs.declared.outcome.CastOption.{CastOption}
use Rattle.rules.specs.declared.outcome.CastOption.TheVariants.{NonStrict, Overflowing}
use Rattle.rules.specs.code.Choice.{when◌then◌else◌}
use Rattle.rules.specs.Policies.{all_on}
use Rattle.rules.specs.Allows.{◌⇒◌, Allows}
use Rattle.rules.specs.Outcomes.{Verdict, untouched, refused, cast, need}
use Rattle.rules.specs.Params.{params_of, same_as_utc, widened}
use Rattle.rules.specs.Classes.{is_null, is_integer, is_float, is_datetime, unit, is_categorical, is_string, is_decimal}
use Rattle.rules.specs.Promotion.{holds}
use Rattle.rules.specs.Chain.{same_type, wider, unit_allowed, unit_option, chain}
use Rattle.rules.specs.Pairs.{pair_rule}
use Rattle.rules.proofs.Allowed.{all_on_allows}

abbrev pub accepted : Verdict → Bool
accepted untouched = true
accepted (refused n) = false
accepted (cast o) = true

-- w is v wherever v is accepted
pub record Keeps (v w : Verdict) : Type 0 where
  pub kept : T (accepted v) → w ≡ v

same : (v : Verdict) → Keeps v v
same v = record { kept = λ h. refl }

by_test : (c : Bool) {v w v' w' : Verdict} → Keeps v w → Keeps v' w' → Keeps (when c then v else v') (when c then w else w')
by_test true k k' = k
by_test false k k' = k'

by_flag : (a b : Bool) (n : ℕ) {v w : Verdict} → (a ⇒ b) → Keeps v w → Keeps (need a n v) (need b n w)
by_flag true true n h k = k
by_flag true false n h k = let e : false ≡ true = h refl in clash (cc)
by_flag false b n h k = record { kept = λ e. absurd e }

pub or_implies : (a b s : Bool) → (a ⇒ b) → (a || s) ⇒ (b || s)
or_implies true b s h e = rw (h refl)
or_implies false true s h e = refl
or_implies false false s h e = e

module _ {p q : Policy} (l : Allows p q) where
  units : (u v : TimeUnit) → unit_allowed p u v ⇒ unit_allowed q u v
  units Nanoseconds Nanoseconds = λ e. e
  units Nanoseconds Microseconds = l.datetime_nanoseconds_downcast_of
  units Nanoseconds Milliseconds = l.datetime_nanoseconds_downcast_of
  units Microseconds Nanoseconds = l.datetime_microseconds_upcast_of
  units Microseconds Microseconds = λ e. e
  units Microseconds Milliseconds = l.datetime_microseconds_downcast_of
  units Milliseconds Nanoseconds = l.datetime_milliseconds_upcast_of
  units Milliseconds Microseconds = l.datetime_milliseconds_upcast_of
  units Milliseconds Milliseconds = λ e. e

  pub loosened : (z : Params) (i t : Leaf) → Keeps (chain p z i t) (chain q z i t)
  unfolding chain
  loosened z i t =
      by_test (same_type z i t) (same untouched)
      (by_test (is_null i) (by_flag _ _ 15 l.null_upcast_of (same (cast NonStrict)))
      (by_test (is_integer i && is_integer t) (by_flag _ _ 16 l.integer_upcast_of (same (need (holds t i) 17 (cast Overflowing))))
      (by_test (is_float i && is_float t && wider t i) (by_flag _ _ 18 l.float_upcast_of (same (cast NonStrict)))
      (by_test (is_float i && is_float t) (by_flag _ _ 19 l.float_downcast_of (same (cast NonStrict)))
      (by_test (is_integer i && is_float t) (by_flag _ _ 20 l.integer_to_float-cast (same (cast Overflowing)))
      (by_test (is_datetime i && is_datetime t)
      (by_flag _ _ 21 (or_implies _ _ (same_as_utc z) l.datetime-convert_timezone)
      (by_flag _ _ 22 (units (unit i) (unit t)) (same (cast (unit_option (unit i) (unit t))))))
      (by_test (is_categorical i && is_string t) (by_flag _ _ 23 l.categorical-to-string (same (cast NonStrict)))
      (by_test (is_decimal i && is_decimal t && widened z) (by_flag _ _ 51 l.decimal_widening_of (same (cast NonStrict)))
      (same (refused 24))))))))))

  pub rule_loosened : (i t : LeafType) → Keeps (pair_rule p i t) (pair_rule q i t)
  unfolding pair_rule
  rule_loosened i t = loosened (params_of (leaf_of i) (zone_of i) (leaf_of t) (zone_of t)) (leaf_of i) (leaf_of t)

-- what a policy casts passes the check of a plan
pub cast_all_on : (p : Policy) (i t : LeafType) (o : CastOption) → pair_rule p i t ≡ cast o → pair_rule all_on i t ≡ cast o
cast_all_on p i t o e = (rule_loosened (all_on_allows p) i t).kept (subst (λ (v : Verdict). T (accepted v)) (sym e) tt) ∙ e
