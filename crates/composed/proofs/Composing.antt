-- What a selector gives, by what was written as its type and its value. Assumes nothing.
use Prim.Native.Nat.{ℕ, ◌≤◌, ◌<◌}
use mathlib.Core.Path.{◌≡◌, refl, ap, sym, subst, ◌∙◌}
use mathlib.Core.List.{List, []}
use native.Mathlib.Omega.{arith}
use lib.ListN.{length, drop}
use Rattle.layout.specs.Bytes.{Bytes, AllBytes}
use Rattle.layout.specs.Parser.{ok}
use Rattle.layout.specs.Tree.{DataType, Fields, fnil, fcons, fields_of}
use Rattle.layout.specs.declared.cursor.Cursor.{Cursor}
use Rattle.layout.specs.declared.edition.Edition.{Edition}
use Rattle.layout.specs.declared.edition.Edition.TheVariants.{One}
use Rattle.layout.proofs.View.{next-ok}
use Rattle.store.proofs.Overlay.{overlay_front}
use Rattle.values.specs.Value.{Value, Values}
use Rattle.values.specs.Encode.{encode_value}
use Rattle.values.specs.Fits.{FitsAll, all_nil, all_cons}
use Rattle.values.specs.Reading.{value, values}
use Rattle.values.proofs.Stand.{ok_same}
use Rattle.values.proofs.Back.{value_back, values_back}
use Rattle.values.proofs.Round.{value-round}
use Rattle.plan.specs.Selector.{Selector}
use Rattle.plan.specs.code.Formed.{Formed}
use Rattle.plan.specs.code.Fits.{FitsAllOver}
use Rattle.plan.specs.Result.{gives}
use Rattle.plan.specs.Check.{column, type_of}
use Rattle.plan.specs.Run.{eval, clean}
use Rattle.plan.proofs.Over.{all-over, clean-fits}
use Rattle.plan.proofs.Preserve.{eval-over}
use Rattle.plan.proofs.ReadBack.{selector_back}
use Rattle.plan.proofs.Typed.{check→typed}
use Rattle.walk.specs.code.Stands.{SelectorAt}
use Rattle.nodes.specs.code.Raw.{RawAt, RowAt, NodeOf}
use Rattle.nodes.specs.declared.raw.NodeAt.{NodeAt}
use Rattle.nodes.proofs.Node.{raw_moved, standing}
use Rattle.index.specs.code.Indexed.{IndexedRow}
use Rattle.index.proofs.Rows.{indexed_types}
use Rattle.direct.specs.code.Inputs.{InputAt, InputParts, InputIs}
use Rattle.direct.specs.declared.input.Input.{Input}
use Rattle.direct.specs.code.Scopes.{ScopeAt}
use Rattle.direct.specs.declared.scope.Scope.{Scope}
use Rattle.infer.specs.code.Writing.{InferredTo, InferredParts, InferredIs}
use Rattle.infer.specs.declared.form.Inferred.{Inferred}
use Rattle.infer.proofs.FormsAt.{standing as written, standing-is as written_is}
use Rattle.transfer.specs.code.Reaching.{Kept, ReachedIs}
use Rattle.transfer.specs.declared.leaf.Reached.{Reached}
use Rattle.transfer.proofs.Reaching.{reached_to}
use Rattle.walk.proofs.View.{same-selector}
use Rattle.composed.specs.code.Composing.{Composed, CompositionAnswer, CompositionIs}
use Rattle.composed.specs.declared.compose.Composition.{Composition}

-- ---- what was read

fits_read : (fs : Fields) (s : Bytes) → AllBytes s → (at : ℕ) (vs : Values) (m : ℕ) → values fs s at ≡ ok vs m → FitsAll fs vs
unfolding values value
fits_read fnil s o at vs m e = ok_same (λ vs m. FitsAll fnil vs) e all_nil
fits_read (fcons n t fs) s o at vs m e =
    let (v, i, p, e) = next-ok _ _ e in
    let P = value_back t s o at v i p in
    let (ws, j, q, e) = next-ok _ _ e in
    let Q = values_back fs s o i ws j P.stands.within q in
    ok_same (λ vs m. FitsAll (fcons n t fs) vs) e (all_cons P.fits Q.fits)

pub row_fits : {v : Edition} {lay : Bytes} {n t : ℕ} {rec : Bytes} {c : ℕ} → AllBytes rec → (X : RowAt v lay n t rec c) → FitsAllOver
    (fields_of X.columns.columns) X.values.values
row_fits {rec = rec} {c} o X = all-over (fits_read (fields_of X.columns.columns) rec o c X.values.values X.values.end X.values.reads)

pub formed_at : {plan : Bytes} {at : ℕ} → AllBytes plan → (P : SelectorAt plan at) → Formed P.tree
formed_at {plan} {at} o P = (selector_back plan o 64 at P.tree P.end P.reads).formed

-- the columns of a row, with the index of their types
abbrev pub row-scope : {v : Edition} {lay : Bytes} {n : ℕ} {t : Cursor} {rec : Bytes} {c stride : ℕ} {types values : List ℕ} → RowAt v lay n t.at rec
    c → IndexedRow v lay n t.at rec c stride types values × (0 < stride)
    → ScopeAt lay v (Scope.Columns n t) types stride
row-scope X I = record {
  fields = fields_of X.columns.columns;
  parts = record {
    columns = X.columns;
    are = refl;
    indexed = indexed_types X I.0;
    strides = I.1;
  };
}

-- ---- what was written

module _ {Γ : Fields} {ρ : Values} {s : Selector} (F : Formed s) (A : FitsAllOver Γ ρ) where
  composed-by : {out : Bytes} {len : ℕ} {new : Bytes} → InferredTo (type_of Γ s) 16 out 0 len new
      → {o : Bytes} {r : ℕ} {w : Bytes} → Kept (clean (eval ρ s)) (encode_value (eval ρ s)) o 0 r w → r ≤ length o → Composed Γ ρ s new w
  composed-by I {o} {r} {w} K h =
      let fits = clean-fits (eval-over (check→typed F I.typed) A) K.clean in
      let long : length (encode_value (eval ρ s)) ≤ length o = omega (arith, K.stores.ends, h) in
      let back = value-round fits [] (drop (length (encode_value (eval ρ s))) o) in
      record {
        raw = record {
          type = written I.writes;
          value = record {
            tree = eval ρ s;
            end = _;
            reads = ap (λ (t : DataType). value t w 0) (written_is I.writes) ∙ ap (λ (b : Bytes). value I.type b 0)
                (K.stores.stored ∙ overlay_front o (encode_value (eval ρ s)) long) ∙ back;
          };
        };
        is = refl;
        name = I.name;
        typed = I.typed ∙ ap (λ (t : DataType). gives (column I.name t)) (sym (written_is I.writes));
      }

  pub composed_answer : {out : Bytes} {q : Inferred} {len : ℕ} {new : Bytes} → InferredIs (type_of Γ s) 16 out 0 q new → q ≡ Inferred.Is len
      → {e : ℕ} {o : Bytes} {r : Reached} {w : Bytes} → ReachedIs (clean (eval ρ s)) (encode_value (eval ρ s)) e o 0 r w →
      ((c : Cursor) × (end : ℕ) × (r ≡ Reached.To c end) × (end ≤ length o)) → Composed Γ ρ s new w
  composed_answer {out} {q} {len} {new} I f R (c, end, g, h) =
      composed-by (subst (λ (z : Inferred). InferredParts (type_of Γ s) 16 out 0 z new) f I.parts) (reached_to R g).1 h

-- the same of an equal selector
pub composed_as : {Γ : Fields} {ρ : Values} {s t : Selector} {form value : Bytes} → s ≡ t → Composed Γ ρ s form value → Composed Γ ρ t form value
composed_as {Γ} {ρ} {form = form} {value} e C = subst (λ (x : Selector). Composed Γ ρ x form value) e C

-- the value that stands there
pub raw-is : {x : Value} {form value : Bytes} {t c : Cursor} → t.at ≡ 0 → c.at ≡ 0 → (X : RawAt One form 0 value 0) → X.value.tree ≡ x → NodeOf One
    form value x (NodeAt.At t c)
raw-is e f X h = standing (raw_moved (sym e) (sym f) (record { raw = X; is = h }))

-- the input that was found
pub input_by : {s : Bytes} {at : ℕ} {P : SelectorAt s at} {r : Input} → InputIs s at P r → {c : Cursor} → r ≡ Input.At c → InputAt s at P c.at
input_by {s} {at} {P} I e = subst (λ (z : Input). InputParts s at P z) e I.parts

-- ---- which buffers hold it

pub same_at : {s : Bytes} {a b : ℕ} → a ≡ b → (P : SelectorAt s a) (Q : SelectorAt s b) → P.tree ≡ Q.tree
same_at {s} e P Q = subst (λ (m : ℕ). (R : SelectorAt s m) → P.tree ≡ R.tree) e (λ R. (same-selector P R).0) Q

module _ {Γ : Fields} {ρ : Values} {s : Selector} {form value form' value' : Bytes} where
  pub not_settled : CompositionIs Γ ρ s form value form' value' Composition.Unknown
  not_settled = record { answer = tt }

  pub in_first : {r : Composition} → CompositionIs Γ ρ s form value form' value' r → r ≡ Composition.First → Composed Γ ρ s form value
  in_first K e = subst (λ (z : Composition). CompositionAnswer Γ ρ s form value form' value' z) e K.answer

  pub in_second : {r : Composition} → CompositionIs Γ ρ s form value form' value' r → r ≡ Composition.Second → Composed Γ ρ s form' value'
  in_second K e = subst (λ (z : Composition). CompositionAnswer Γ ρ s form value form' value' z) e K.answer
