-- The zone of a leaf type.
use mathlib.Core.Path.{◌≡◌, refl, sym, ap, ap₂, ◌∙◌}
use mathlib.Core.List.{[]}
use mathlib.Core.Bool.{Bool, true, false}
use Rattle.layout.specs.Bytes.{Bytes}
use Rattle.layout.specs.Tree.{LeafType, leaf_type, leaf_of, zone_of}
use Rattle.layout.specs.declared.leaf.Leaf.{Leaf}
use Rattle.layout.proofs.Leaves.{leaf_type_of}
use Rattle.rules.specs.code.Choice.{when◌then◌else◌}
use Rattle.rules.specs.Classes.{is_datetime}

-- a date-time has its zone, and no other type has one
pub zone_of-type : (l : Leaf) (z : Bytes) → zone_of (leaf_type l z) ≡ (when is_datetime l then z else [])
zone_of-type Leaf.Null z = refl
zone_of-type Leaf.Boolean z = refl
zone_of-type (Leaf.Integer i) z = refl
zone_of-type (Leaf.Float f) z = refl
zone_of-type Leaf.Date z = refl
zone_of-type (Leaf.Datetime u) z = refl
zone_of-type Leaf.String z = refl
zone_of-type Leaf.Binary z = refl
zone_of-type Leaf.Categorical z = refl
zone_of-type (Leaf.Decimal d) z = refl

pub zone_of_lem : (a : LeafType) → zone_of a ≡ (when is_datetime (leaf_of a) then zone_of a else [])
zone_of_lem a = sym (ap zone_of (leaf_type_of a)) ∙ zone_of-type (leaf_of a) (zone_of a)

-- two leaf types of one kind are equal, date-times if they have one zone
pub same_leaf_type : (a b : LeafType) → leaf_of a ≡ leaf_of b → (is_datetime (leaf_of a) ≡ true → zone_of a ≡ zone_of b) → a ≡ b
same_leaf_type a b e f =
    sym (leaf_type_of a) ∙ ap₂ leaf_type e (go (is_datetime (leaf_of a)) refl) ∙ leaf_type_of b
  where
    go : (c : Bool) → is_datetime (leaf_of a) ≡ c → zone_of a ≡ zone_of b
    go true q = f q
    go false q =
        zone_of_lem a ∙ ap (λ (c : Bool). when c then zone_of a else []) q
        ∙ sym (zone_of_lem b ∙ ap (λ (c : Bool). when c then zone_of b else []) (sym (ap is_datetime e) ∙ q))
