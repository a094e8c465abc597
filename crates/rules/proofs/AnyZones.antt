-- Document 02, L2: "The plan check, which judges with that flag on, keeps its answers", whichever unequal zones count
-- as the same.
use mathlib.Core.Path.{◌≡◌, refl, sym, ap, ◌∙◌}
use mathlib.Core.Bool.{Bool, true, false, ◌&&◌}
use Rattle.layout.specs.Bytes.{Bytes, same_bytes}
use Rattle.layout.specs.Tree.{LeafType, leaf_of, zone_of}
use Rattle.layout.specs.declared.leaf.Leaf.{Leaf}
use Rattle.rules.specs.declared.policy.Policy.{Policy}
use Rattle.rules.specs.declared.params.Params.{Params}
use Rattle.rules.specs.declared.params.Params.TheVariants.{Identical, SameAsUtc, Different}
use Rattle.rules.specs.declared.outcome.CastOption.{CastOption}
use Rattle.rules.specs.code.Choice.{when◌then◌else◌}
use Rattle.rules.specs.Policies.{all_on}
use Rattle.rules.specs.Outcomes.{Verdict}
use Rattle.rules.specs.Zones.{read_zone, zones_of}
use Rattle.rules.specs.Params.{decimals_of, decimal_of, params_of}
use Rattle.rules.specs.Classes.{is_decimal}
use Rattle.rules.specs.Chain.{chain}
use Rattle.rules.specs.Pairs.{pair_rule, has_option, cast_passes}

-- zones compared with any rule for unequal ones
abbrev pub zones_by : (Bytes → Bytes → Bool) → Bytes → Bytes → Params
zones_by same a b = when same_bytes a b then Identical else when same a b then SameAsUtc else Different

-- the rule of a pair with such a comparison
abbrev pub pair_rule_by : (Bytes → Bytes → Bool) → Policy → LeafType → LeafType → Verdict
pair_rule_by same p i t =
    chain p
    (when is_decimal (leaf_of i) && is_decimal (leaf_of t) then decimals_of (decimal_of (leaf_of i)) (decimal_of (leaf_of t)) else zones_by same (zone_of i) (zone_of t))
    (leaf_of i) (leaf_of t)

abbrev as_utc : Bytes → Bytes → Bool
as_utc a b = same_bytes (read_zone a) (read_zone b)

-- ours is the one that reads zones as UTC
pub ours : (p : Policy) (i t : LeafType) → pair_rule p i t ≡ pair_rule_by as_utc p i t
unfolding pair_rule params_of zones_of
ours p i t = refl

-- unequal zones are all alike with the flag on
alike : (p : Policy) (i t : Leaf) → p.datetime_convert_timezone ≡ true → chain p SameAsUtc i t ≡ chain p Different i t
unfolding chain
alike p i t e = rw e

module _ (same : Bytes → Bytes → Bool) (p : Policy) (i t : LeafType) (e : p.datetime_convert_timezone ≡ true) where
  by_rule_lem : (c : Bool) → chain p (when c then SameAsUtc else Different) (leaf_of i) (leaf_of t) ≡ chain p Different (leaf_of i) (leaf_of t)
  by_rule_lem true = alike p (leaf_of i) (leaf_of t) e
  by_rule_lem false = refl

  by_bytes : (c d : Bool) → chain p (when c then Identical else when d then SameAsUtc else Different) (leaf_of i) (leaf_of t)
      ≡ chain p (when c then Identical else Different) (leaf_of i) (leaf_of t)
  by_bytes true d = refl
  by_bytes false d = by_rule_lem d

  -- with the flag on no rule has a say
  pub no_say : pair_rule_by same p i t ≡ pair_rule_by (λ a b. false) p i t
  no_say = go (is_decimal (leaf_of i) && is_decimal (leaf_of t))
    where
      go : (m : Bool)
          → chain p (when m then decimals_of (decimal_of (leaf_of i)) (decimal_of (leaf_of t)) else zones_by same (zone_of i) (zone_of t)) (leaf_of i) (leaf_of t)
          ≡ chain p (when m then decimals_of (decimal_of (leaf_of i)) (decimal_of (leaf_of t)) else zones_by (λ a b. false) (zone_of i) (zone_of t)) (leaf_of i) (leaf_of t)
      go true = refl
      go false = by_bytes (same_bytes (zone_of i) (zone_of t)) (same (zone_of i) (zone_of t))

-- so a cast passes the check, or not, under any rule
pub passes_by_any : (same : Bytes → Bytes → Bool) (i t : LeafType) (o : CastOption) → cast_passes i t o ≡ has_option o (pair_rule_by same all_on i t)
unfolding cast_passes
passes_by_any same i t o = ap (has_option o) (ours all_on i t ∙ no_say as_utc all_on i t refl ∙ sym (no_say same all_on i t refl))
