-- What a selector that casts an element gives, and a mapping that casts each of its elements.
use Rattle.std.specs.Prelude.{ℕ, ◌≡◌}
use Rattle.layout.specs.Bytes.{Bytes}
use Rattle.layout.specs.Tree.{ColumnType, dtype_of}
use Rattle.layout.specs.declared.edition.Edition.{Edition}
use Rattle.layout.specs.declared.leaf.Leaf.{Leaf}
use Rattle.values.specs.Value.{Value, vnil, vcons}
use Rattle.values.specs.Encode.{encode_values}
use Rattle.plan.specs.Selector.{Selector}
use Rattle.plan.specs.Run.{map_values, cast_leaf, cast_value, eval, clean_all_of}
use Rattle.nodes.specs.code.Raw.{ElementsAt}
use Rattle.transfer.specs.code.Reaching.{ReachedIs}
use Rattle.transfer.specs.declared.casts.Each.{Each}
use Rattle.transfer.specs.declared.leaf.Reached.{Reached}

-- of a type: a cast to it is one to that kind
abbrev pub KindAnswer : ColumnType → Each → Type 0
KindAnswer t (Each.Cast k) = (x : Value) → cast_leaf k x ≡ cast_value (dtype_of t) x
KindAnswer t Each.Other = Unit {0}

pub record KindIs (t : ColumnType) (r : Each) : Type 0 where
  pub answer : KindAnswer t r

-- of a selector over an element: it gives the element, cast to that kind
abbrev pub EachAnswer : Selector → Each → Type 0
EachAnswer s (Each.Cast k) = (x : Value) → cast_leaf k x ≡ eval (vcons x vnil) s
EachAnswer s Each.Other = Unit {0}

pub record EachIs (s : Selector) (r : Each) : Type 0 where
  pub answer : EachAnswer s r

-- each of the elements X was cast to the kind k and stored, of a mapping that ends at e
abbrev pub CastsReached : {v : Edition} {lay : Bytes} {n t : ℕ} {rec : Bytes} {c : ℕ} → ElementsAt v lay n t rec c → Leaf → ℕ → Bytes → ℕ → Reached →
    Bytes → Type 0
CastsReached X k e out from r out' = ReachedIs (clean_all_of (map_values (cast_leaf k) X.values.values)) (encode_values (map_values (cast_leaf k)
    X.values.values)) e out from r out'
