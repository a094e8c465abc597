-- A transform over a type that was written out for its input. Assumes nothing.
use Prim.Native.Nat.{ℕ}
use mathlib.Core.Path.{◌≡◌, sym, ap, ◌∙◌, subst}
use mathlib.Core.List.{[]}
use Rattle.layout.specs.Bytes.{Bytes}
use Rattle.layout.specs.Tree.{DataType, Fields, dtype_of}
use Rattle.layout.specs.declared.cursor.Cursor.{Cursor}
use Rattle.plan.specs.Result.{Result, gives}
use Rattle.plan.specs.Selector.{Selector}
use Rattle.plan.specs.Check.{Column, column, type_of}
use Rattle.walk.specs.code.Stands.{SelectorAt}
use Rattle.direct.specs.declared.input.Input.{Input}
use Rattle.direct.specs.code.Inputs.{input_of, InputAt, InputParts, InputIs}
use Rattle.infer.specs.declared.form.Inferred.{Inferred}
use Rattle.infer.specs.code.Writing.{InferredTo, InferredParts, InferredIs}
use Rattle.infer.proofs.FormsAt.{standing, standing-is}

-- ---- what a caller gets from an answer

pub input-at : {s : Bytes} {at : ℕ} {P : SelectorAt s at} {r : Input} → InputIs s at P r → {c : Cursor} → r ≡ Input.At c → InputAt s at P c.at
input-at {s} {at} {P} I e = subst (λ (x : Input). InputParts s at P x) e I.parts

pub inferred_to : {r : Result Column} {depth : ℕ} {out : Bytes} {k : ℕ} {q : Inferred} {out' : Bytes} → InferredIs r depth out k q out' → {len : ℕ} → q
    ≡ Inferred.Is len → InferredTo r depth out k len out'
inferred_to {r} {depth} {out} {k} {out' = out'} I e = subst (λ (x : Inferred). InferredParts r depth out k x out') e I.parts

-- ---- answers

pub unsettled : {r : Result Column} {depth : ℕ} {k : ℕ} {out' : Bytes} → (b : Bytes) × InferredIs r depth b k Inferred.Unknown out'
unsettled = ([], record { parts = tt })

-- what the transform takes, by the type that was written
pub input-typed : {s : Bytes} {at : ℕ} {P : SelectorAt s at} {m : ℕ} (I : InputAt s at P m) (Γ : Fields) {depth : ℕ} {out : Bytes} {k len : ℕ}
    {out' : Bytes} (W : InferredTo (type_of Γ I.input.tree) depth out k len out')
    → type_of Γ (input_of P.tree) ≡ gives (column W.name (dtype_of (standing W.writes).tree))
input-typed I Γ W = ap (λ (x : Selector). type_of Γ x) (sym I.is) ∙ W.typed ∙ ap (λ (t : DataType). gives (column W.name t))
    (sym (standing-is W.writes))
