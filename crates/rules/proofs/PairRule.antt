-- The rule of a pair of leaf types: what counts beside the kinds; untouched means equal.
use mathlib.Core.Path.{◌≡◌, refl, sym, ap, ap₂, subst, ◌∙◌}
use mathlib.Core.List.{[]}
use mathlib.Core.Bool.{Bool, true, false, not, ◌&&◌, ◌||◌, true≢false}
use lib.Dec.{eqb}
use Prim.Native.Nat.{ℕ}
use native.Mathlib.Omega.{arith}
use borrow.Author.Tests.{eqb-true, eq-eqb, le-ltb}
use Rattle.layout.specs.Bytes.{Bytes, same_bytes}
use Rattle.layout.specs.Tree.{LeafType, leaf_type, leaf_of, zone_of, null}
use Rattle.layout.specs.declared.leaf.Leaf.{Leaf}
use Rattle.layout.specs.declared.leaf.Decimal.{Decimal}
use Rattle.rules.specs.declared.policy.Policy.{Policy}
use Rattle.rules.specs.declared.params.Params.{Params}
use Rattle.rules.specs.declared.params.Params.TheVariants.{Identical, SameAsUtc, Widened, Different}
use Rattle.rules.specs.declared.outcome.CastOption.{CastOption}
use Rattle.rules.specs.declared.outcome.CastOption.TheVariants.{NonStrict}
use Rattle.rules.specs.code.Choice.{when◌then◌else◌}
use Rattle.rules.specs.Outcomes.{Verdict, untouched, refused, cast, need}
use Rattle.rules.specs.Zones.{read_zone, zones_of}
use Rattle.rules.specs.Params.{widens, same_decimal, decimals_of, decimal_of, params_of, identical, widened}
use Rattle.rules.specs.Kinds.{kind_of}
use Rattle.rules.specs.Classes.{is_datetime, is_decimal}
use Rattle.rules.specs.Chain.{same_type, chain}
use Rattle.rules.specs.Pairs.{pair_rule}
use Rattle.rules.proofs.EachLeaf.{each-pair, kind_eq}
use Rattle.layout.proofs.Leaves.{leaf_of-type}
use Rattle.rules.proofs.LeafTypes.{zone_of-type, same_leaf_type}
use Rattle.rules.proofs.OfClass.{not-decimal, datetime-not-decimal}
use Rattle.rules.proofs.Way.{Way, way, way_same}
use Rattle.layout.proofs.OfBytes.{same_bytes-refl, same_bytes_eq}
use Rattle.rules.proofs.Utc.{zones_identical}

-- ---- zones count between date-times alone, precision and scale between decimals alone

abbrev count : Leaf → Leaf → Bool
count i t = (is_datetime i && is_datetime t) || (is_decimal i && is_decimal t)

-- the comparison where it counts
abbrev between : Params → Leaf → Leaf → Params
between z i t = when count i t then z else Identical

counts : (p : Policy) (z : Params) (i t : Leaf) → chain p z i t ≡ chain p (between z i t) i t
unfolding chain
counts p z = each-pair (chain p z) (λ i t. chain p (between z i t) i t) (λ d e. refl)

no_params : (p : Policy) (i t : Leaf) (z w : Params) → count i t ≡ false → chain p z i t ≡ chain p w i t
no_params p i t z w e =
    counts p z i t
    ∙ ap (λ (c : Bool). chain p (when c then z else Identical) i t) e
    ∙ sym (counts p w i t ∙ ap (λ (c : Bool). chain p (when c then w else Identical) i t) e)

-- the chain at two leaves with zones beside them is the rule of the two leaf types
pub pair_of_leaves : (p : Policy) (i t : Leaf) (z w : Bytes) → chain p (params_of i z t w) i t ≡ pair_rule p (leaf_type i z) (leaf_type t w)
unfolding pair_rule params_of
pair_of_leaves p i t z w =
    rw (leaf_of-type i z, leaf_of-type t w, zone_of-type i z, zone_of-type t w) (by_kind (is_decimal i && is_decimal t) refl)
  where
    neither : {a b : Bool} → a ≡ false → b ≡ false → (a || b) ≡ false
    neither e f = ap₂ ◌||◌ e f

    zoned : (is_decimal i && is_decimal t) ≡ false → (b : Bool) → is_datetime i ≡ b → (c : Bool) → is_datetime t ≡ c
        → chain p (zones_of z w) i t ≡ chain p (zones_of (when b then z else []) (when c then w else [])) i t
    zoned k true e true f = refl
    zoned k true e false f = no_params p i t _ _ (neither (ap₂ ◌&&◌ e f) k)
    zoned k false e c f = no_params p i t _ _ (neither (ap (λ (b : Bool). b && is_datetime t) e) k)

    by_kind : (k : Bool) → (is_decimal i && is_decimal t) ≡ k
        → chain p (when k then decimals_of (decimal_of i) (decimal_of t) else zones_of z w) i t
        ≡ chain p (when k then decimals_of (decimal_of i) (decimal_of t) else zones_of (when is_datetime i then z else []) (when is_datetime t then w else [])) i t
    by_kind true q = refl
    by_kind false q = zoned q (is_datetime i) refl (is_datetime t) refl

-- ---- the parameters of two leaf types

abbrev pub params : LeafType → LeafType → Params
params a b = params_of (leaf_of a) (zone_of a) (leaf_of b) (zone_of b)

pub params_decimals : (a b : LeafType) → is_decimal (leaf_of a) ≡ true → is_decimal (leaf_of b) ≡ true → params a b ≡ decimals_of (decimal_of (leaf_of a))
    (decimal_of (leaf_of b))
unfolding params_of
params_decimals a b e f = rw (e, f)

params_zones : (a b : LeafType) → is_decimal (leaf_of a) ≡ false → params a b ≡ zones_of (zone_of a) (zone_of b)
unfolding params_of
params_zones a b e = rw e

same_decimal_lem : {d e : Decimal} → d.precision ≡ e.precision → d.scale ≡ e.scale → d ≡ e
same_decimal_lem p q = λ i. record { precision = p i; scale = q i }

decimals-refl : (d : Decimal) → identical (decimals_of d d) ≡ true
unfolding decimals_of
decimals-refl d = rw (eq-eqb d.scale d.scale refl, le-ltb d.precision d.precision (omega arith), eq-eqb d.precision d.precision refl)

both_true : (a b : Bool) → (a && b) ≡ true → (a ≡ true) × (b ≡ true)
both_true true b e = (refl, e)
both_true false b e = absurd (true≢false (sym e))

identical-decimals : (d e : Decimal) → identical (decimals_of d e) ≡ true → d ≡ e
unfolding decimals_of
identical-decimals d e = go (widens d e) (same_decimal d e) refl
  where
    go : (w s : Bool) → same_decimal d e ≡ s → identical (when w then Widened else when s then Identical else Different) ≡ true → d ≡ e
    go true s q h = absurd (true≢false (sym h))
    go false true q h = let (a, b) = both_true (eqb d.scale e.scale) _ q in same_decimal_lem (eqb-true _ _ b) (eqb-true _ _ a)
    go false false q h = absurd (true≢false (sym h))

pub widened-widens : (d e : Decimal) → widened (decimals_of d e) ≡ true → widens d e ≡ true
unfolding decimals_of
widened-widens d e = go (widens d e) (same_decimal d e)
  where
    go : (w s : Bool) → widened (when w then Widened else when s then Identical else Different) ≡ true → w ≡ true
    go true s h = refl
    go false true h = absurd (true≢false (sym h))
    go false false h = absurd (true≢false (sym h))

-- ---- equal types

abbrev is_untouched : Verdict → Bool
is_untouched untouched = true
is_untouched (refused n) = false
is_untouched (cast o) = false

identical-refl : (z : Bytes) → identical (zones_of z z) ≡ true
identical-refl z = ap identical (sym (zones_identical z z (same_bytes-refl z)))

identical_eq : (z w : Bytes) → identical (zones_of z w) ≡ true → z ≡ w
unfolding zones_of
identical_eq z w = go (same_bytes z w) refl (same_bytes (read_zone z) (read_zone w))
  where
    go : (c : Bool) → same_bytes z w ≡ c → (d : Bool) → identical (when c then Identical else when d then SameAsUtc else Different) ≡ true → z ≡ w
    go true q d e = same_bytes_eq z w q
    go false q true e = absurd (true≢false (sym e))
    go false q false e = absurd (true≢false (sym e))

-- the first test of the chain, for two leaf types
abbrev pub same_leaf_type_lem : LeafType → LeafType → Bool
same_leaf_type_lem a b = same_type (params a b) (leaf_of a) (leaf_of b)

params_refl : (a : LeafType) → identical (params a a) ≡ true
params_refl a = go (is_decimal (leaf_of a)) refl
  where
    go : (c : Bool) → is_decimal (leaf_of a) ≡ c → identical (params a a) ≡ true
    go true q = ap identical (params_decimals a a q q) ∙ decimals-refl (decimal_of (leaf_of a))
    go false q = ap identical (params_zones a a q) ∙ identical-refl (zone_of a)

pub same_type-refl : (a : LeafType) → same_leaf_type_lem a a ≡ true
same_type-refl a =
    ap₂ ◌&&◌ (eq-eqb (kind_of (leaf_of a)) (kind_of (leaf_of a)) refl) (ap (λ (b : Bool). not (parametric a) || b) (params_refl a) ∙ or_true (not (parametric a)))
  where
    parametric : LeafType → Bool
    parametric a = is_datetime (leaf_of a) || is_decimal (leaf_of a)

    or_true : (b : Bool) → (b || true) ≡ true
    or_true true = refl
    or_true false = refl

-- equal kinds are equal leaves, decimals if their parameters are identical
same_leaf_lem : (a b : LeafType) → kind_of (leaf_of a) ≡ kind_of (leaf_of b) → (is_decimal (leaf_of a) ≡ true → identical (params a b) ≡ true) → leaf_of a ≡ leaf_of b
same_leaf_lem a b q h = kind_eq (leaf_of a) (leaf_of b) q (go (is_decimal (leaf_of a)) refl)
  where
    other : is_decimal (leaf_of a) ≡ is_decimal (leaf_of b)
    other = ap (λ (k : ℕ). eqb k 20) q

    go : (c : Bool) → is_decimal (leaf_of a) ≡ c → decimal_of (leaf_of a) ≡ decimal_of (leaf_of b)
    go true e = identical-decimals _ _ (sym (ap identical (params_decimals a b e (sym other ∙ e))) ∙ h e)
    go false e = not-decimal (leaf_of a) e ∙ sym (not-decimal (leaf_of b) (sym other ∙ e))

pub same_type_eq : (a b : LeafType) → same_leaf_type_lem a b ≡ true → a ≡ b
same_type_eq a b e =
    let (k, f) = both_true (eqb (kind_of (leaf_of a)) (kind_of (leaf_of b))) _ e in
    same_leaf_type a b (same_leaf_lem a b (eqb-true _ _ k) (λ m. second (is_datetime (leaf_of a)) (is_decimal (leaf_of a)) _ f m))
    (λ d. identical_eq (zone_of a) (zone_of b) (sym (ap identical (params_zones a b (datetime-not-decimal (leaf_of a) d))) ∙ first (is_datetime (leaf_of a))
    _ _ f d))
  where
    first : (d m c : Bool) → (not (d || m) || c) ≡ true → d ≡ true → c ≡ true
    first true m c e q = e
    first false m c e q = absurd (true≢false (sym q))

    second : (d m c : Bool) → (not (d || m) || c) ≡ true → m ≡ true → c ≡ true
    second true m c e q = e
    second false true c e q = e
    second false false c e q = absurd (true≢false (sym q))

pub same_type_ne : (a b : LeafType) → (a ≡ b → ⊥) → same_leaf_type_lem a b ≡ false
same_type_ne a b n = go (same_leaf_type_lem a b) refl
  where
    go : (c : Bool) → same_leaf_type_lem a b ≡ c → c ≡ false
    go true q = absurd (n (same_type_eq a b q))
    go false q = refl

-- equal types are untouched
pub equal-untouched : (p : Policy) (a b : LeafType) → a ≡ b → pair_rule p a b ≡ untouched
unfolding pair_rule chain
equal-untouched p a b e = rw (← e) (whole (same_leaf_type_lem a a) _ (same_type-refl a))
  where
    whole : (c : Bool) (v : Verdict) → c ≡ true → (when c then untouched else v) ≡ untouched
    whole true v q = refl
    whole false v q = absurd (true≢false (sym q))

-- and untouched types are equal
pub untouched-equal : (p : Policy) (a b : LeafType) → pair_rule p a b ≡ untouched → a ≡ b
unfolding pair_rule
untouched-equal p a b e = go (subst (Way (params a b) (leaf_of a) (leaf_of b)) e (way p (params a b) (leaf_of a) (leaf_of b)))
  where
    go : Way (params a b) (leaf_of a) (leaf_of b) untouched → a ≡ b
    go (way_same s) = same_type_eq a b s

-- so no cast is between equal types
pub cast_unequal : (p : Policy) (a b : LeafType) (o : CastOption) → pair_rule p a b ≡ cast o → a ≡ b → ⊥
cast_unequal p a b o e q = no-cast (sym (equal-untouched p a b q) ∙ e)
  where
    no-cast : untouched ≡ cast o → ⊥
    no-cast e = true≢false (ap is_untouched e)

-- null to any other type
pub null_rule : (p : Policy) (t : LeafType) → (null ≡ t → ⊥) → pair_rule p null t ≡ need p.null_upcast 15 (cast NonStrict)
unfolding pair_rule chain
null_rule p t n = ap (λ (c : Bool). when c then untouched else need p.null_upcast 15 (cast NonStrict)) (same_type_ne null t n)
