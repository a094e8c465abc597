-- What the functions of src/target.rt answer on each way. Assumes nothing.
use Prim.Native.Nat.{ℕ}
use mathlib.Core.Path.{◌≡◌, sym, ap, ◌∙◌, subst}
use mathlib.Core.List.{List}
use Rattle.layout.specs.Bytes.{Bytes}
use Rattle.layout.specs.Tree.{Label, DataType, dtype_of}
use Rattle.layout.specs.Layout.{label}
use Rattle.layout.specs.code.Stands.{TypeAt}
use Rattle.layout.specs.code.Answers.{span_at, label_res}
use Rattle.layout.specs.declared.columns.Label.{Label as LabelSpan}
use Rattle.layout.specs.declared.columns.Labelled.{Labelled}
use Rattle.layout.specs.declared.cursor.Cursor.{Cursor}
use Rattle.layout.specs.declared.edition.Edition.{Edition}
use Rattle.layout.proofs.View.{label_got}
use Rattle.forms.specs.code.Compare.{same_dtype}
use Rattle.forms.specs.code.Answers.{same_of}
use Rattle.forms.specs.declared.compare.Same.{Same}
use Rattle.direct.specs.declared.fit.FitEnd.{FitEnd}
use Rattle.forms.proofs.Equal.{same_dtype_eq}
use Rattle.forms.proofs.Read.{ok_eq}
use Rattle.forms.proofs.Comparing.{same-to}
use Rattle.plan.specs.Result.{Result, gives}
use Rattle.plan.specs.Check.{Column, column, type_of}
use Rattle.walk.specs.code.Stands.{SelectorAt}
use Rattle.direct.specs.declared.scope.Scope.{Scope}
use Rattle.direct.specs.code.Fits.{ColumnFitAt, FitsColumn, GivesIs}
use Rattle.direct.proofs.Fitting.{none-given}
use Rattle.infer.specs.code.Typed.{TypedIs}
use Rattle.infer.specs.code.Writing.{InferredTo}
use Rattle.infer.proofs.FormsAt.{standing, standing-is}

pub not-typed : {r : Result Column} {e : ℕ} {t : DataType} {f : ℕ} → TypedIs r e t f FitEnd.Unknown
not-typed = record { parts = tt }

pub given_as : {A : Type 0} {r : Result A} {e : ℕ} {a : A} {f : ℕ} {q p : FitEnd} → GivesIs r e a f q → q ≡ p → GivesIs r e a f p
given_as {r = r} {e} {a} {f} G h = subst (λ (x : FitEnd). GivesIs r e a f x) h G

-- the type that was written is the target's
pub inferred_fits : {a : Result Column} {depth : ℕ} {out : Bytes} {k len : ℕ} {out' : Bytes} (W : InferredTo a depth out k len out') {plan : Bytes} {at : ℕ}
    (P : SelectorAt plan at)
    {vt : Edition} {target : Bytes} {bt : ℕ} (T : TypeAt vt 16 target bt) {q : Same} {x y e : Cursor}
    → q ≡ same_of (same_dtype (dtype_of (standing W.writes).tree) (dtype_of T.tree)) (standing W.writes).end T.end → q ≡ Same.To x y → e.at ≡ P.end
    → TypedIs a P.end (dtype_of T.tree) T.end (FitEnd.At e y)
inferred_fits W P T f g h =
    let (z, o, w) = same-to _ f g in
    record {
      parts = record {
        name = W.name;
        typed = W.typed ∙ ap (λ (t : DataType). gives (column W.name t)) (sym (standing-is W.writes) ∙ same_dtype_eq _ _ z);
        ends = (h, w);
      };
    }

-- under the name b, that every column of the result has
named-given : {r : Result Column} {e : ℕ} {t : DataType} {f : ℕ} {b : Bytes} → ((a : Column) → r ≡ gives a → a.name ≡ b) → (q : FitEnd) → TypedIs r e t f q
    → GivesIs r e (column b t) f q
named-given {t = t} h (FitEnd.At x y) T =
    record {
      parts = record {
        typed = T.parts.typed ∙ ap (λ (n : Bytes). gives (column n t)) (h (column T.parts.name t)
            T.parts.typed);
        ends = T.parts.ends;
      };
    }
named-given h FitEnd.Unknown T = none-given

-- a type and a name of the target make a column of the target
pub column-typed : {incoming : Bytes} {v : Edition} {scope : Scope} {index : List ℕ} {stride : ℕ} {plan : Bytes} {at : ℕ} {target : Bytes} {vt : Edition}
    {bt : ℕ}
    (A : ColumnFitAt incoming v scope index stride plan at target vt bt) {p : Labelled} {l : LabelSpan} {c : Cursor} → label_res target p ≡ label vt target bt
    → p ≡ Labelled.Is l c
    → ((a : Column) → type_of A.scoped.fields A.selector.tree ≡ gives a → a.name ≡ span_at target l.name)
    → {q : FitEnd} → TypedIs (type_of A.scoped.fields A.selector.tree) A.selector.end (dtype_of A.column.inner.tree) A.column.inner.end q
    → FitsColumn A q
column-typed {target = target} A {l = l} e f h {q} T =
    let w : A.column.label.name ≡ span_at target l.name = ap (λ (x : Label). x.name) (ok_eq (sym A.column.labelled ∙ label_got target e f)).0 in
    named-given (λ a g. h a g ∙ sym w) q T
