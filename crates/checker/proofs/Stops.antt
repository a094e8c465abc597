-- What stands where a walk through selectors that passed the check stops. Assumes nothing.
use Prim.Native.Nat.{ℕ}
use mathlib.Core.Path.{◌≡◌, refl, sym, ap, ◌∙◌, subst}
use mathlib.Core.List.{List, []}
use Rattle.layout.specs.Bytes.{Bytes}
use Rattle.layout.specs.Tree.{DataType, Fields}
use Rattle.layout.specs.declared.columns.Position.{Position}
use Rattle.layout.proofs.Ways.{clash}
use Rattle.rules.specs.declared.outcome.CastOption.{CastOption}
use Rattle.values.specs.Value.{Value}
use Rattle.plan.specs.Result.{gives}
use Rattle.plan.specs.Selector.{Selector, position, constant, cast, rename, struct_mapping, list_mapping, array_mapping, Selectors}
use Rattle.plan.specs.Check.{Column, column_at, type_of}
use Rattle.plan.proofs.Results.{gives_eq}
use Rattle.walk.specs.code.State.{Frame, State, state}
use Rattle.walk.specs.code.Moves.{Stopped, s_column, s_constant, s_cast, s_rename, s_struct, s_list, s_array, s_no_element, s_no_field}
use Rattle.walk.specs.code.Types.{ScopeOf, c_top, Along, a_here, Gives}
use Rattle.checker.specs.code.TypesAt.{Made, made_struct, made_list, made_array}
use Rattle.checker.proofs.Given.{cast-gives, struct-gives, list-gives, array-gives}
use Rattle.checker.proofs.Steps.{rename_step, no_element_never, no_field_never}

pub record ColumnStop (Γ : Fields) (k : Position) (p : List ℕ) (t : DataType) : Type 0 where
  pub column : Column
  pub found : column_at Γ k.0 ≡ gives column
  pub along : Along column.type p t

-- where no path is left
pub along-end : {t u : DataType} → Along t [] u → t ≡ u
along-end a_here = refl

type_of_lem : {c d : Column} → c ≡ d → c.type ≡ d.type
type_of_lem e = ap (λ (x : Column). x.type) e

column-there : {Γ : Fields} {k j : Position} {p : List ℕ} {t : DataType} → j ≡ k → Gives Γ (state (position j) [] p) t → ColumnStop Γ k p t
unfolding type_of
column-there {Γ} {k} {j} {p} {t} e G = subst (λ (i : Position). ColumnStop Γ i p t) e (go G.scoped G.passes G.along)
  where
    go : {Δ : Fields} {c : Column} → ScopeOf Γ [] Δ → column_at Δ j.0 ≡ gives c → Along c.type p t → ColumnStop Γ j p t
    go {c = c} c_top h a = record { column = c; found = h; along = a }

pub column_stop_lem : {Γ : Fields} {x : State} {t : DataType} {k : Position} → Stopped x → x.selector ≡ position k → Gives Γ x t → ColumnStop Γ k x.path t
column_stop_lem s_column e G = column-there (cc) G
column_stop_lem s_constant e G = clash (cc)
column_stop_lem s_cast e G = clash (cc)
column_stop_lem s_rename e G = clash (cc)
column_stop_lem s_struct e G = clash (cc)
column_stop_lem s_list e G = clash (cc)
column_stop_lem s_array e G = clash (cc)
column_stop_lem (s_no_element h) e G = no_element_never h G
column_stop_lem (s_no_field h) e G = clash (cc)

module _ {Γ : Fields} {x : State} {t : DataType} where
  selects : {s : Selector} → x.selector ≡ s → Gives Γ x t → Gives Γ (state s x.frames x.path) t
  selects {s} e G = record {
    scope = G.scope;
    column = G.column;
    scoped = G.scoped;
    passes = ap (λ (y : Selector). type_of G.scope y) (sym e) ∙
        G.passes;
    along = G.along;
  }

  pub constant_stop_lem : {n : Bytes} {u : DataType} {v : Value} → x.selector ≡ constant n u v → Gives Γ x t → Along u x.path t
  unfolding type_of
  constant_stop_lem {n} {u} {v} e G =
      let H = selects e G in
      subst (λ (y : DataType). Along y x.path t) (sym (type_of_lem (gives_eq H.passes))) H.along

  pub cast_stop_lem : {s : Selector} {u : DataType} {o : CastOption} → x.selector ≡ cast s u o → Gives Γ x t → Along u x.path t
  cast_stop_lem e G =
      let H = selects e G in
      subst (λ (y : DataType). Along y x.path t) (type_of_lem (cast-gives H.passes).is) H.along

  pub rename_stop : {s : Selector} {n : Bytes} → x.selector ≡ rename s n → Gives Γ x t → Gives Γ (state s x.frames x.path) t
  rename_stop e G = rename_step (selects e G)

module _ {Γ : Fields} {E : List Frame} {t : DataType} where
  struct-there : {s : Selector} {ss : Selectors} → Gives Γ (state (struct_mapping s ss) E []) t → Made Γ (state (struct_mapping s ss) E []) t
  struct-there {s} {ss} G =
      let R = struct-gives G.passes in
      subst (λ (u : DataType). Made Γ (state (struct_mapping s ss) E []) u) (sym (type_of_lem R.is) ∙ along-end G.along)
      (made_struct G.scoped R.passes R.kind R.parts)

  list-there : {s e : Selector} → Gives Γ (state (list_mapping s e) E []) t → Made Γ (state (list_mapping s e) E []) t
  list-there {s} {e} G =
      let R = list-gives G.passes in
      subst (λ (u : DataType). Made Γ (state (list_mapping s e) E []) u) (sym (type_of_lem R.is) ∙ along-end G.along)
      (made_list G.scoped R.passes R.kind R.part)

  array-there : {s e : Selector} → Gives Γ (state (array_mapping s e) E []) t → Made Γ (state (array_mapping s e) E []) t
  array-there {s} {e} G =
      let R = array-gives G.passes in
      subst (λ (u : DataType). Made Γ (state (array_mapping s e) E []) u) (sym (type_of_lem R.is) ∙ along-end G.along)
      (made_array G.scoped R.passes R.kind R.part)

pub struct_stop_lem : {Γ : Fields} {x : State} {t : DataType} {s : Selector} {ss : Selectors} → Stopped x → x.selector ≡ struct_mapping s ss → Gives Γ x t →
    Made Γ x t
struct_stop_lem s_column e G = clash (cc)
struct_stop_lem s_constant e G = clash (cc)
struct_stop_lem s_cast e G = clash (cc)
struct_stop_lem s_rename e G = clash (cc)
struct_stop_lem s_struct e G = struct-there G
struct_stop_lem s_list e G = clash (cc)
struct_stop_lem s_array e G = clash (cc)
struct_stop_lem (s_no_element h) e G = clash (cc)
struct_stop_lem (s_no_field h) e G = no_field_never h G

pub list_stop_lem : {Γ : Fields} {x : State} {t : DataType} {s e : Selector} → Stopped x → x.selector ≡ list_mapping s e → Gives Γ x t → Made Γ x t
list_stop_lem s_column e G = clash (cc)
list_stop_lem s_constant e G = clash (cc)
list_stop_lem s_cast e G = clash (cc)
list_stop_lem s_rename e G = clash (cc)
list_stop_lem s_struct e G = clash (cc)
list_stop_lem s_list e G = list-there G
list_stop_lem s_array e G = clash (cc)
list_stop_lem (s_no_element h) e G = clash (cc)
list_stop_lem (s_no_field h) e G = clash (cc)

pub array_stop : {Γ : Fields} {x : State} {t : DataType} {s e : Selector} → Stopped x → x.selector ≡ array_mapping s e → Gives Γ x t → Made Γ x t
array_stop s_column e G = clash (cc)
array_stop s_constant e G = clash (cc)
array_stop s_cast e G = clash (cc)
array_stop s_rename e G = clash (cc)
array_stop s_struct e G = clash (cc)
array_stop s_list e G = clash (cc)
array_stop s_array e G = array-there G
array_stop (s_no_element h) e G = clash (cc)
array_stop (s_no_field h) e G = clash (cc)
