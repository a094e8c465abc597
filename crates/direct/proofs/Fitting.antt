-- What the functions of src/fit.rt answer on each way for one selector. Assumes nothing.
use Prim.Native.Nat.{ℕ, ◌<◌}
use mathlib.Core.Path.{◌≡◌, refl, sym, ap, ◌∙◌, subst}
use mathlib.Core.Bool.{Bool, true}
use mathlib.Core.List.{List}
use Rattle.layout.specs.Bytes.{Bytes}
use Rattle.layout.specs.Parser.{ok}
use Rattle.layout.specs.Tree.{DataType, Fields, dtype_of, fields_of}
use Rattle.layout.specs.Layout.{text, type as typeRead}
use Rattle.layout.specs.code.Stands.{TypeAt}
use Rattle.layout.specs.code.Answers.{span_at, text_res, IsTextIn}
use Rattle.layout.specs.declared.bytes.Span.{Span}
use Rattle.layout.specs.declared.columns.Siblings.TheVariants.{Free}
use Rattle.layout.specs.declared.cursor.Cursor.{Cursor}
use Rattle.layout.specs.declared.cursor.Text.{Text}
use Rattle.layout.specs.declared.edition.Edition.{Edition}
use Rattle.layout.specs.declared.edition.Edition.TheVariants.{One}
use Rattle.layout.proofs.Ways.{text_in}
use Rattle.forms.specs.code.Compare.{same_dtype}
use Rattle.forms.specs.code.Answers.{same_of}
use Rattle.forms.specs.declared.compare.Same.{Same}
use Rattle.direct.specs.declared.fit.FitEnd.{FitEnd}
use Rattle.forms.proofs.Equal.{same_dtype_eq}
use Rattle.forms.proofs.Read.{ok_eq}
use Rattle.forms.proofs.Comparing.{same-to}
use Rattle.rules.specs.declared.outcome.CastOption.{CastOption}
use Rattle.plan.specs.Result.{Result, gives}
use Rattle.plan.specs.Selector.{Selector}
use Rattle.plan.specs.Check.{Column, column, element_of, cast_fits_of, within_limits, type_of, types_of}
use Rattle.walk.specs.code.Parts.{ConstantAt, CastAt, RenameAt, StructAt, ListAt, ArrayAt, CountedIs}
use Rattle.walk.specs.declared.head.StructFields.{StructFields}
use Rattle.walk.proofs.View.{selector_moved, selectors_moved}
use Rattle.index.specs.code.Indexed.{Indexed}
use Rattle.direct.specs.declared.fit.Fit.{Fit}
use Rattle.direct.specs.declared.place.Place.{Place}
use Rattle.direct.specs.declared.place.Name.{Name}
use Rattle.direct.specs.declared.scope.Scope.{Scope}
use Rattle.direct.specs.code.Scopes.{TakenAt}
use Rattle.direct.specs.code.Insides.{StructIn, ListIn, ArraysIn}
use Rattle.direct.specs.code.Fits.{FitAt, FitTo, FitParts, FitIs, Fits, around_of, GivesTo, GivesParts, GivesIs, FieldsFitAt}
use Rattle.direct.proofs.Naming.{named-at}
use Rattle.direct.proofs.Trees.{within, cast-gives, rename-gives, struct-gives, list-gives, array-gives}

-- ---- answers

pub unknown : {incoming plan : Bytes} {r : Result Column} {e : ℕ} {t : DataType} {f : ℕ} → FitIs incoming plan r e t f Fit.Unknown
unknown = record { parts = tt }

pub none-given : {A : Type 0} {r : Result A} {e : ℕ} {a : A} {f : ℕ} → GivesIs r e a f FitEnd.Unknown
none-given = record { parts = tt }

-- what a caller gets from an answer
pub fit_to : {incoming plan : Bytes} {r : Result Column} {e : ℕ} {t : DataType} {f : ℕ} {q : Fit} → FitIs incoming plan r e t f q → {x y : Cursor}
    {n : Name} → q ≡ Fit.Is x y n → FitTo incoming plan r e t f x y n
fit_to {incoming} {plan} {r} {e} {t} {f} F g = subst (λ (q : Fit). FitParts incoming plan r e t f q) g F.parts

pub gives_to : {A : Type 0} {r : Result A} {e : ℕ} {a : A} {f : ℕ} {q : FitEnd} → GivesIs r e a f q → {x y : Cursor} → q ≡ FitEnd.At x y → GivesTo r e a f x y
gives_to {r = r} {e} {a} {f} G h = subst (λ (q : FitEnd). GivesParts r e a f q) h G.parts

fit_as : {incoming plan : Bytes} {r : Result Column} {e : ℕ} {t : DataType} {f : ℕ} {q p : Fit} → q ≡ p → FitIs incoming plan r e t f p → FitIs incoming
    plan r e t f q
fit_as {incoming} {plan} {r} {e} {t} {f} g F = subst (λ (x : Fit). FitIs incoming plan r e t f x) (sym g) F

-- types that are the same
alike : {a b : DataType} {i j : ℕ} {q : Same} {x y : Cursor} → q ≡ same_of (same_dtype a b) i j → q ≡ Same.To x y → (a ≡ b) × (x.at ≡ i) × (y.at ≡ j)
alike {a} {b} f g = let (z, p, w) = same-to _ f g in (same_dtype_eq a b z, p, w)

-- ---- one selector and one type

module _ {incoming : Bytes} {v : Edition} {scope : Scope} {index : List ℕ} {stride : ℕ} {plan : Bytes} {at : ℕ} {target : Bytes} {vt : Edition} {bt : ℕ}
    (A : FitAt incoming v scope index stride plan at target vt bt) where
  abbrev Γ : Fields
  Γ = A.scoped.fields

  abbrev goal : DataType
  goal = dtype_of A.type.tree

  small : within_limits goal ≡ true
  small = within A.type A.small

  pub position-fits : {n : Span} {d : ℕ} (K : TakenAt incoming v (type_of A.scoped.fields A.selector.tree) n d) {q : Same} {x y e : Cursor} {m : Name}
      → q ≡ same_of (same_dtype (dtype_of K.type.tree) (dtype_of A.type.tree)) K.type.end A.type.end → q ≡ Same.To x y → e.at ≡ A.selector.end
      → m ≡ record { place = Place.Incoming; span = n } → Fits A (Fit.Is e y m)
  position-fits {n} K f g h i =
      let (z, o, w) = alike f g in
      record {
        parts = record {
          name = span_at incoming n;
          named = named-at incoming plan Place.Incoming n i K.within;
          typed = K.is ∙ ap (λ (t : DataType). gives (column (span_at incoming n) t)) z;
          ends = (h, w);
        };
      }

  pub constant-fits : {n : Span} {t : ℕ} (C : ConstantAt plan at A.selector n t) {q : Same} {x y e : Cursor} {m : Name}
      → q ≡ same_of (same_dtype (dtype_of C.type.tree) (dtype_of A.type.tree)) C.type.end A.type.end → q ≡ Same.To x y → e.at ≡ A.selector.end
      → m ≡ record { place = Place.Plan; span = n } → Fits A (Fit.Is e y m)
  unfolding type_of
  constant-fits {n} C f g h i =
      let (z, o, w) = alike f g in
      record {
        parts = record {
          name = span_at plan n;
          named = named-at incoming plan Place.Plan n i C.named;
          typed = ap (λ (s : Selector). type_of Γ s) C.is ∙ ap (λ (t : DataType). gives (column (span_at plan n) t)) z;
          ends = (h, w);
        };
      }

  module _ {m : ℕ} (C : CastAt plan at A.selector m) where
    -- the cast's type, where its input ends
    abbrev pub cast-type : {t : ℕ} → t ≡ C.input.end → TypeAt One 16 plan t
    cast-type h = record { tree = C.type.tree; end = C.type.end; reads = ap (λ (o : ℕ). typeRead One Free 16 plan o) h ∙ C.type.reads }

    pub cast_fits : {n : Span} {d : ℕ} (K : TakenAt incoming v (type_of A.scoped.fields C.input.tree) n d) {q : Same} {x y e : Cursor} {k : Name}
        {o : CastOption} {b : Bool}
        → q ≡ same_of (same_dtype (dtype_of C.type.tree) (dtype_of A.type.tree)) C.type.end A.type.end → q ≡ Same.To x y → o ≡ C.option.option
        → b ≡ cast_fits_of (dtype_of K.type.tree) (dtype_of C.type.tree) o → b ≡ true → e.at ≡ A.selector.end → k ≡ record
        { place = Place.Incoming; span = n } → Fits A (Fit.Is e y k)
    cast_fits {n} K f g p c l h i =
        let (z, o, w) = alike f g in
        let u = dtype_of C.type.tree in
        let fits : cast_fits_of (dtype_of K.type.tree) u C.option.option ≡ true = ap (λ (r : CastOption). cast_fits_of (dtype_of K.type.tree) u r)
        (sym p) ∙ sym c ∙ l in
        let limits : within_limits u ≡ true = ap within_limits z ∙ small in
        record {
          parts = record {
            name = span_at incoming n;
            named = named-at incoming plan Place.Incoming n i K.within;
            typed = ap (λ (s : Selector). type_of Γ s) C.is ∙ cast-gives Γ C.input.tree K.is u C.option.option fits limits ∙ ap
                (λ (t : DataType). gives (column (span_at incoming n) t)) z;
            ends = (h, w);
          };
        }

  module _ {m : ℕ} (R : RenameAt plan at A.selector m) where
    abbrev pub rename_asks : FitAt incoming v scope index stride plan m target vt bt
    rename_asks = record { scoped = A.scoped; selector = R.input; type = A.type; small = A.small }

    pub rename-fits : {e f : Cursor} {k : Name} → FitTo incoming plan (type_of A.scoped.fields R.input.tree) R.input.end
        (dtype_of A.type.tree) A.type.end e f k → {q : Text} {n : Span} {g : Cursor} {j : Name}
        → text_res plan q ≡ text plan e.at → IsTextIn plan q → q ≡ Text.Is n g → j ≡ record { place = Place.Plan; span = n } → Fits A (Fit.Is g f j)
    rename-fits F {n = n} {g} h i p j =
        let z : ok (span_at plan n) g.at ≡ ok R.name.bytes R.name.end = ap (text_res plan) (sym p) ∙ h ∙ ap (λ (o : ℕ). text plan o)
        F.ends.0 ∙ R.name.reads in
        let (a, b) = ok_eq z in
        record {
          parts = record {
            name = span_at plan n;
            named = named-at incoming plan Place.Plan n j (text_in plan i p);
            typed = ap (λ (s : Selector). type_of Γ s) R.is ∙ rename-gives Γ R.input.tree F.typed R.name.bytes small ∙ ap
                (λ (c : Bytes). gives (column c goal)) (sym a);
            ends = (b ∙ R.ends, F.ends.1);
          };
        }

  module _ {m : ℕ} (S : StructAt plan at A.selector m) {n : Span} {d : ℕ} (K : TakenAt incoming v (type_of A.scoped.fields S.input.tree) n d)
      {i j : ℕ} {x y : Cursor}
      (I : StructIn v incoming d K.type i x.at) (J : StructIn vt target bt A.type j y.at) where
    abbrev pub struct_asks : {w : StructFields} {starts : List ℕ} {step : ℕ} → CountedIs plan S.input.end S.fields w → w.count ≡ j → Indexed v
        incoming i x.at step starts → 0 < step
        → FieldsFitAt incoming v (Scope.Columns i x) starts step plan j w.first.at target vt y.at
    struct_asks W h X z = record {
      scoped = record { fields = fields_of I.columns.columns; parts = record { columns = I.columns; are = refl; indexed = X; strides = z } };
      selectors = selectors_moved (sym W.count ∙ h) (sym W.first) S.fields.selectors;
      columns = J.columns;
      small = A.small;
    }

    pub struct-fits : {e f : Cursor} {k : Name} → GivesTo (types_of (fields_of I.columns.columns) S.fields.selectors.trees)
        S.fields.selectors.end (fields_of J.columns.columns) J.columns.end e f
        → k ≡ record { place = Place.Incoming; span = n } → Fits A (Fit.Is e f k)
    struct-fits G h = record {
      parts = record {
        name = span_at incoming n;
        named = named-at incoming plan Place.Incoming n h K.within;
        typed = ap (λ (s : Selector). type_of Γ s) S.is ∙ struct-gives Γ S.input.tree K.is S.fields.selectors.trees I.is G.typed
            (ap within_limits (sym J.is) ∙ small)
            ∙ ap (λ (t : DataType). gives (column (span_at incoming n) t)) (sym J.is);
        ends = (G.ends.0 ∙ S.ends.1, G.ends.1 ∙ J.ends);
      };
    }

  module _ {m : ℕ} (L : ListAt plan at A.selector m) {n : Span} {d : ℕ} (K : TakenAt incoming v (type_of A.scoped.fields L.input.tree) n d)
      {x y : Cursor}
      (I : ListIn v incoming d K.type x.at) (J : ListIn vt target bt A.type y.at) {e : Cursor} (h : e.at ≡ L.input.end) where
    abbrev pub list_asks : FitAt incoming v (Scope.Element x) index stride plan e.at target vt y.at
    list_asks = record {
      scoped = record { fields = element_of (dtype_of I.type.tree); parts = record { type = I.type; are = refl } };
      selector = selector_moved (sym h) L.element;
      type = J.type;
      small = A.small;
    }

    pub list-fits : {q r : Fit} → Fits list_asks q → r ≡ around_of n q → Fits A r
    list-fits {q} {r} F g = go q F g
      where
        go : (q : Fit) → Fits list_asks q → r ≡ around_of n q → Fits A r
        go (Fit.Is a b k) F g = fit_as g (record {
          parts = record {
            name = span_at incoming n;
            named = named-at incoming plan Place.Incoming n refl K.within;
            typed = ap (λ (s : Selector). type_of Γ s) L.is ∙ list-gives Γ L.input.tree K.is L.element.tree I.is F.parts.typed
                (ap within_limits (sym J.is) ∙ small)
                ∙ ap (λ (t : DataType). gives (column (span_at incoming n) t)) (sym J.is);
            ends = (F.parts.ends.0 ∙ L.ends, F.parts.ends.1 ∙ J.ends);
          };
        })
        go Fit.Unknown F g = fit_as g unknown

  module _ {m : ℕ} (L : ArrayAt plan at A.selector m) {n : Span} {d : ℕ} (K : TakenAt incoming v (type_of A.scoped.fields L.input.tree) n d)
      {x y : Cursor}
      (B : ArraysIn v incoming d K.type vt target bt A.type x.at y.at) {e : Cursor} (h : e.at ≡ L.input.end) where
    abbrev pub array_asks : FitAt incoming v (Scope.Element x) index stride plan e.at target vt y.at
    array_asks = record {
      scoped = record { fields = element_of (dtype_of B.first.type.tree); parts = record { type = B.first.type; are = refl } };
      selector = selector_moved (sym h) L.element;
      type = B.second.type;
      small = A.small;
    }

    pub array-fits : {q r : Fit} → Fits array_asks q → r ≡ around_of n q → Fits A r
    array-fits {q} {r} F g = go q F g
      where
        go : (q : Fit) → Fits array_asks q → r ≡ around_of n q → Fits A r
        go (Fit.Is a b k) F g = fit_as g (record {
          parts = record {
            name = span_at incoming n;
            named = named-at incoming plan Place.Incoming n refl K.within;
            typed = ap (λ (s : Selector). type_of Γ s) L.is ∙ array-gives Γ L.input.tree K.is L.element.tree B.first.is
                F.parts.typed (ap within_limits (sym B.second.is) ∙ small)
                ∙ ap (λ (t : DataType). gives (column (span_at incoming n) t)) (sym B.second.is);
            ends = (F.parts.ends.0 ∙ L.ends, F.parts.ends.1 ∙ B.second.ends);
          };
        })
        go Fit.Unknown F g = fit_as g unknown

-- ---- around

pub around-is : (n : Span) {r : Fit} {x y : Cursor} {k m : Name} → r ≡ Fit.Is x y k → m ≡ record { place = Place.Incoming; span = n } → Fit.Is x y m ≡
    around_of n r
around-is n {x = x} {y} e h = ap (λ (m : Name). Fit.Is x y m) h ∙ ap (around_of n) (sym e)
