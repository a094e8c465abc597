-- Elements that are cast each by itself. Assumes nothing.
use Prim.Native.Nat.{ℕ}
use mathlib.Core.Path.{◌≡◌, refl, ap, sym, subst, ◌∙◌}
use Rattle.layout.specs.Bytes.{Bytes}
use Rattle.layout.specs.Tree.{ColumnType}
use Rattle.layout.specs.declared.columns.Position.{Position}
use Rattle.layout.specs.declared.edition.Edition.{Edition}
use Rattle.layout.specs.declared.leaf.Leaf.{Leaf}
use Rattle.values.specs.Value.{Value, Values, vnil, vcons}
use Rattle.values.specs.Encode.{encode_values}
use Rattle.plan.specs.Selector.{Selector, position}
use Rattle.plan.specs.Run.{value_at, map_values, cast_leaf, eval, clean_all_of}
use Rattle.walk.specs.code.Stands.{SelectorAt}
use Rattle.walk.specs.code.Parts.{CastAt}
use Rattle.nodes.specs.code.Raw.{RawAt, ElementsAt, NodeOf}
use Rattle.nodes.specs.declared.raw.NodeAt.{NodeAt}
use Rattle.nodes.proofs.Node.{standing}
use Rattle.layout.specs.declared.cursor.Cursor.{Cursor}
use Rattle.transfer.specs.code.Reaching.{ReachedIs}
use Rattle.transfer.specs.code.Casts.{KindIs, EachAnswer, EachIs, CastsReached}
use Rattle.transfer.specs.code.Given.{ElementsReached}
use Rattle.transfer.specs.declared.casts.Each.{Each}
use Rattle.transfer.specs.declared.leaf.Reached.{Reached}
use Rattle.transfer.proofs.Chaining.{type_moved}

pub other-kind : {t : ColumnType} → KindIs t Each.Other
other-kind = record { answer = tt }

pub other-each : {s : Selector} → EachIs s Each.Other
other-each = record { answer = tt }

-- an element stands where its value begins
pub element-stands : {v : Edition} {lay rec : Bytes} {t c : Cursor} (X : RawAt v lay t.at rec c.at) → NodeOf v lay rec X.value.tree (NodeAt.At t c)
element-stands X = standing (record { raw = X; is = refl })

-- position 0 of an element is the element
element-is : {s : Selector} {k : Position} → s ≡ position k → k.0 ≡ 0 → (x : Value) → x ≡ eval (vcons x vnil) s
unfolding eval value_at
element-is e z x = sym (ap (eval (vcons x vnil)) e ∙ ap (value_at (vcons x vnil)) z)

-- a cast of position 0, by the kind of its type
pub each-cast : {s : Bytes} {at : ℕ} {P : SelectorAt s at} {m : ℕ} (K : CastAt s at P m) {k : Position} → K.input.tree ≡ position k → k.0 ≡ 0 → {t :
    ℕ} (h : t ≡ K.input.end) (r : Each) → KindIs (type_moved P vnil K h).tree r → EachIs P.tree r
unfolding eval
each-cast {P = P} K e z h (Each.Cast to) D = record {
  answer = λ x. ap (cast_leaf to) (element-is e z x) ∙ D.answer (eval (vcons x vnil) K.input.tree) ∙ sym (ap (eval (vcons x vnil)) K.is);
}
each-cast K e z h Each.Other D = record { answer = tt }

map_same : (f g : Value → Value) → ((x : Value) → f x ≡ g x) → (vs : Values) → map_values f vs ≡ map_values g vs
unfolding map_values
map_same f g h vnil = refl
map_same f g h (vcons v vs) = ap (λ (x : Value). vcons x (map_values f vs)) (h v) ∙ ap (vcons (g v)) (map_same f g h vs)

-- elements that are cast are what the selector gives
pub casts-are : {v : Edition} {lay : Bytes} {n t : ℕ} {rec : Bytes} {c : ℕ} (X : ElementsAt v lay n t rec c) {plan : Bytes} {at : ℕ} (P : SelectorAt plan
    at) {q : Each} → EachIs P.tree q → {k : Leaf} → q ≡ Each.Cast k → {e : ℕ} {out : Bytes} {from : ℕ} {r : Reached} {new : Bytes} → CastsReached X k
    e out from r new → ElementsReached X P e out from r new
casts-are X P E {k} f {e} {out} {from} {r} {new} R =
    let A : EachAnswer P.tree (Each.Cast k) = subst (λ (z : Each). EachAnswer P.tree z) f E.answer in
    subst (λ (vs : Values). ReachedIs (clean_all_of vs) (encode_values vs) e out from r new) (map_same (cast_leaf k) (λ x. eval (vcons x vnil) P.tree) A
    X.values.values) R
