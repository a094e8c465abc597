-- What a mapping whose parts have passed makes: its head, its input and its parts. Assumes nothing.
use Prim.Native.Nat.{ℕ, zero, suc, ◌<◌}
use mathlib.Core.Path.{◌≡◌, refl, sym, ap, ◌∙◌, subst}
use mathlib.Core.List.{[], ◌∷◌}
use native.Mathlib.Omega.{arith}
use Rattle.layout.specs.Tree.{DataType, struct, array, Fields, count_fields}
use Rattle.layout.specs.Layout.{a_struct, a_list}
use Rattle.layout.proofs.Ways.{clash}
use Rattle.forms.specs.code.Heads.{head_of}
use Rattle.plan.specs.Result.{gives}
use Rattle.plan.specs.Selector.{Selector, position, constant, cast, rename, struct_mapping, list_mapping, array_mapping, Selectors, snil, scons, count_selectors}
use Rattle.plan.specs.Check.{Column, column_at, element_of, type_of}
use Rattle.plan.specs.Reach.{SelectorAt as Nth, s_here, s_there}
use Rattle.plan.proofs.Results.{gives_eq}
use Rattle.walk.specs.code.State.{Frame, fields, element, State, state}
use Rattle.walk.specs.code.Moves.{Input, i_array, Part, p_field, p_list, p_array}
use Rattle.walk.specs.code.Types.{ScopeOf, c_fields, c_list, c_array, Along, a_here, Gives}
use Rattle.checker.specs.code.Shallow.{Shallow}
use Rattle.checker.specs.code.TypesAt.{parts_of, Made, made_struct, made_list, made_array}
use Rattle.checker.proofs.Given.{part_gives, types_count, column-below}
use Rattle.checker.proofs.Steps.{element-is}
use Rattle.checker.proofs.Room.{array-shallow, field-shallow, element-shallow, array_element-shallow}

-- no path is left
pub made_ends : {Γ : Fields} {x : State} {t : DataType} → Made Γ x t → x.path ≡ []
made_ends (made_struct a b c d) = refl
made_ends (made_list a b c d) = refl
made_ends (made_array a b c d) = refl

-- ---- the head

pub made_struct-head : {Γ : Fields} {x : State} {t : DataType} {s : Selector} {ss : Selectors} → Made Γ x t → x.selector ≡ struct_mapping s ss → a_struct
    (count_selectors ss) ≡ head_of t
unfolding head_of
made_struct-head {ss = ss} (made_struct {ss = rs} {fs = fs} {gs = gs} a b c d) e =
    let q : rs ≡ ss = cc in
    ap a_struct (ap count_selectors (sym q) ∙ sym (types_count fs rs d))
made_struct-head (made_list a b c d) e = clash (cc)
made_struct-head (made_array a b c d) e = clash (cc)

pub made_list-head : {Γ : Fields} {x : State} {t : DataType} {s r : Selector} → Made Γ x t → x.selector ≡ list_mapping s r → a_list ≡ head_of t
unfolding head_of
made_list-head (made_struct a b c d) e = clash (cc)
made_list-head (made_list a b c d) e = refl
made_list-head (made_array a b c d) e = clash (cc)

pub record MadeArray (Γ : Fields) (x : State) (t : DataType) : Type 0 where
  pub width : ℕ
  pub element : DataType
  pub is : t ≡ array width element

pub made_array-head : {Γ : Fields} {x : State} {t : DataType} {s r : Selector} → Made Γ x t → x.selector ≡ array_mapping s r → MadeArray Γ x t
made_array-head (made_struct a b c d) e = clash (cc)
made_array-head (made_list a b c d) e = clash (cc)
made_array-head (made_array {d = d} {w = w} a b c h) e = record { width = w; element = d.type; is = refl }

-- what no mapping is: a selector whose code is below 4
abbrev pub code_of : Selector → ℕ
code_of (position k) = 0
code_of (constant n t v) = 1
code_of (cast s t o) = 2
code_of (rename s n) = 3
code_of (struct_mapping s ss) = 4
code_of (list_mapping s e) = 5
code_of (array_mapping s e) = 6

pub made_never : {X : Type 0} {Γ : Fields} {x : State} {t : DataType} {s : Selector} → Made Γ x t → x.selector ≡ s → code_of s < 4 → X
made_never {s = z} (made_struct a b c d) e h = let q : 4 ≡ code_of z = ap code_of e in absurd (omega arith)
made_never {s = z} (made_list a b c d) e h = let q : 5 ≡ code_of z = ap code_of e in absurd (omega arith)
made_never {s = z} (made_array a b c d) e h = let q : 6 ≡ code_of z = ap code_of e in absurd (omega arith)

-- the selectors of what makes a struct, as many as its fields
pub record MadeStruct (x : State) (gs : Fields) : Type 0 where
  pub input : Selector
  pub parts : Selectors
  pub is : x.selector ≡ struct_mapping input parts
  pub count : count_fields gs ≡ count_selectors parts

pub made-parts : {Γ : Fields} {x : State} {gs : Fields} → Made Γ x (struct gs) → MadeStruct x gs
made-parts (made_struct {s = s} {ss = ss} {fs = fs} a b c d) = record { input = s; parts = ss; is = refl; count = types_count fs ss d }

-- ---- the input

-- the input of what makes an array is an array of the same width
pub record ArrayInput (Γ : Fields) (x : State) (w : ℕ) : Type 0 where
  pub input : Selector
  pub takes : Input x.selector input
  pub shallow : Shallow x → Shallow (state input x.frames [])
  pub element : DataType
  pub given : Gives Γ (state input x.frames []) (array w element)

pub array-input : {Γ : Fields} {x : State} {w : ℕ} {u : DataType} → Made Γ x (array w u) → ArrayInput Γ x w
array-input {Γ} (made_array {E = E} {Δ = Δ} {s = s} {a = a} {w = w} {t = t} sc h k g) =
    record {
      input = s;
      takes = i_array;
      shallow = λ H. array-shallow H;
      element = t;
      given = record { scope = Δ; column = a; scoped = sc; passes = h; along = subst (λ (y : DataType). Along y [] (array w t)) (sym k) a_here };
    }

-- ---- the parts

pub nth-there : (ss : Selectors) (k : ℕ) → k < count_selectors ss → (s : Selector) × Nth ss k s
unfolding count_selectors
nth-there snil k h = absurd (omega arith)
nth-there (scons s ss) zero h = (s, s_here)
nth-there (scons s ss) (suc k) h = let (x, N) = nth-there ss k (omega arith) in (x, s_there N)

pub record FieldMade (Γ : Fields) (x : State) (k : ℕ) (c : Column) : Type 0 where
  pub frame : Frame
  pub part : Selector
  pub takes : Part x.selector k frame part
  pub shallow : Shallow x → Shallow (state part (frame ∷ x.frames) [])
  pub scope : Fields
  pub scoped : ScopeOf Γ (frame ∷ x.frames) scope
  pub passes : type_of scope part ≡ gives c

pub record PartMade (Γ : Fields) (x : State) (k : ℕ) (c : Column) : Type 0 where
  pub frame : Frame
  pub part : Selector
  pub takes : Part x.selector k frame part
  pub shallow : Shallow x → Shallow (state part (frame ∷ x.frames) [])
  pub scope : Fields
  pub scoped : ScopeOf Γ (frame ∷ x.frames) scope
  pub column : Column
  pub passes : type_of scope part ≡ gives column
  pub typed : column.type ≡ c.type

pub part-made : {Γ : Fields} {x : State} {t : DataType} (k : ℕ) {c : Column} → Made Γ x t → column_at (parts_of t) k ≡ gives c → PartMade Γ x k c
unfolding parts_of
part-made k {c} (made_struct {E = E} {s = s} {ss = ss} {fs = fs} {gs = gs} sc h q g) e =
    let l = column-below gs k e in
    let z = types_count fs ss g in
    let (y, N) = nth-there ss k (omega arith) in
    let P = part_gives N g in
    record {
      frame = fields s;
      part = y;
      takes = p_field N;
      shallow = λ H. field-shallow N H;
      scope = fs;
      scoped = c_fields sc h q;
      column = P.column;
      passes = P.passes;
      typed = ap (λ (d : Column). d.type) (gives_eq (sym P.found ∙ e));
    }
part-made k {c} (made_list {E = E} {s = s} {e = r} {d = d} {t = t} sc h q g) e =
    record {
      frame = element s k;
      part = r;
      takes = p_list;
      shallow = λ H. element-shallow H;
      scope = element_of t;
      scoped = c_list sc h q;
      column = d;
      passes = g;
      typed = sym (ap (λ (d : Column). d.type) (element-is e).1);
    }
part-made k {c} (made_array {E = E} {s = s} {e = r} {d = d} {t = t} sc h q g) e =
    record {
      frame = element s k;
      part = r;
      takes = p_array;
      shallow = λ H. array_element-shallow H;
      scope = element_of t;
      scoped = c_array sc h q;
      column = d;
      passes = g;
      typed = sym (ap (λ (d : Column). d.type) (element-is e).1);
    }

-- a field keeps its name too
pub field-made : {Γ : Fields} {x : State} {gs : Fields} (k : ℕ) {c : Column} (M : Made Γ x (struct gs)) (e : column_at gs k ≡ gives c) → FieldMade Γ x k c
field-made k {c} (made_struct {E = E} {s = s} {ss = ss} {fs = fs} {gs = gs} sc h q g) e =
    let l = column-below gs k e in
    let z = types_count fs ss g in
    let (y, N) = nth-there ss k (omega arith) in
    let P = part_gives N g in
    record {
      frame = fields s;
      part = y;
      takes = p_field N;
      shallow = λ H. field-shallow N H;
      scope = fs;
      scoped = c_fields sc h q;
      passes = P.passes ∙ ap gives (gives_eq (sym P.found ∙ e));
    }
