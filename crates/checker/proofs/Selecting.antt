-- The check of a selector from that of its input and its parts. Assumes nothing.
use Prim.Native.Nat.{ℕ, zero, suc, ◌+◌, ◌≤◌, ◌<◌}
use mathlib.Core.Path.{◌≡◌, refl, sym, ap, ◌∙◌, subst}
use mathlib.Core.Bool.{Bool, true, false, true≢false}
use mathlib.Core.List.{[], ◌∷◌}
use native.Mathlib.Omega.{arith}
use Rattle.layout.specs.Bytes.{Bytes}
use Rattle.layout.specs.Tree.{DataType, leaf, struct, list, array, Fields, fcons, count_fields, dtype_of}
use Rattle.layout.specs.Layout.{Head}
use Rattle.layout.specs.declared.bytes.Span.{Span}
use Rattle.layout.specs.declared.columns.Position.{Position}
use Rattle.layout.specs.declared.cursor.Cursor.{Cursor}
use Rattle.layout.specs.declared.edition.Edition.{Edition}
use Rattle.layout.specs.declared.edition.Edition.TheVariants.{One}
use Rattle.nodes.specs.code.Typed.{TypeIs}
use Rattle.plan.proofs.Results.{gives_eq}
use lib.ListN.{length}
use Rattle.forms.specs.Form.{form}
use Rattle.forms.specs.code.Heads.{head_of}
use Rattle.forms.specs.Depth.{depth_of}
use Rattle.plan.specs.Result.{Result, gives, refuses, ◌>>=◌}
use Rattle.rules.specs.declared.outcome.CastOption.{CastOption}
use Rattle.plan.specs.Selector.{Selector, position, constant, cast, rename, struct_mapping, list_mapping, array_mapping, Selectors, snil, scons, count_selectors}
use Rattle.plan.specs.Selector.{nesting}
use Rattle.plan.specs.Check.{Column, column_at, element_of, struct_of, list_of, array_of, within_limits, resulting, check_cast, check_rename, check_struct, check_list}
use Rattle.plan.specs.Check.{check_array, type_of, types_of}
use Rattle.plan.specs.Reach.{SelectorAt as Nth, s_here, s_there}
use Rattle.walk.specs.code.State.{Frame, fields, element, State, state}
use Rattle.walk.specs.code.Moves.{Input, i_cast, i_rename, i_struct, i_list, i_array, Part, p_field, p_list, p_array}
use Rattle.walk.specs.code.Types.{c_fields, c_list, c_array}
use Rattle.walk.specs.code.Stands.{SelectorAt}
use Rattle.walk.specs.code.Parts.{CastAt, RenameAt, StructAt, ListAt, ArrayAt, HeadIs}
use Rattle.walk.specs.code.Walks.{WalkAt, rank, StepsTo}
use Rattle.walk.specs.declared.walk.Walk.{Walk}
use Rattle.walk.specs.declared.head.SelectorHead.{SelectorHead}
use Rattle.walk.proofs.Heads.{is_position_lem, is-constant}
use Rattle.walk.proofs.Walks.{walk_small}
use Rattle.checker.specs.code.Shallow.{Shallow}
use Rattle.checker.specs.code.Same.{code_of}
use Rattle.checker.specs.code.TypesAt.{head_kind, TypeHeadIs, TypedAt, NamedAt, ScopedAt}
use Rattle.walk.specs.code.Children.{PartStands, PassedTo}
use Rattle.checker.specs.code.Limits.{fit_of, type_fit, around_of, added_of, rest_fit, Bounded, size_of, within_fit, Limited, ScopeIs}
use Rattle.checker.specs.code.Checking.{measured_of, MeasuredIs, fitting_of, is_transform, CheckingAt, PassedInput, nothing_left, fields_left, listed_left}
use Rattle.checker.specs.code.Checking.{arrayed_left, RestAnswer, RestIs, MappingAt, Elements, of_list, of_array, fields_result, element_result}
use Rattle.checker.specs.declared.limits.Fit.{Fit}
use Rattle.checker.specs.declared.limits.Size.{Size}
use Rattle.checker.specs.declared.selector.Measured.{Measured}
use Rattle.checker.specs.declared.selector.Rest.{Rest}
use Rattle.checker.specs.declared.selector.ScopeColumns.{ScopeColumns}
use Rattle.checker.specs.declared.place.TypeHead.{TypeHead}
use Rattle.checker.proofs.Room.{cast-shallow, rename-shallow, struct-shallow, list-shallow, array-shallow, field-shallow, element-shallow}
use Rattle.checker.proofs.Room.{array_element-shallow, entries-count}
use Rattle.checker.proofs.Resolving.{selected, named-typed}
use Rattle.checker.proofs.Making.{nth-there}
use Rattle.walk.proofs.Children.{ChildAt, part-stands, passed-more}
use Rattle.checker.proofs.Checks.{result_is, bind_refused, bind_gives, bind_known, PassedAs, passed-gives, refused-refuses}
use Rattle.walk.proofs.View.{selector-longer}
use Rattle.checker.proofs.Within.{fields-limited, list-limited, array-limited, element-limited, within_fit_lem, transform_within}
use Rattle.checker.proofs.Fitting.{is_struct_mapping, is_list_mapping, is-array, fit_struct, fit_list, fit_array, rest-start, rest-none, rest_more, added_bounded}

abbrev ToInput : Walk → Walk → Type 0
ToInput w x = (p : Bytes) (z : State) (s : Selector) → WalkAt p w z → Input z.selector s → StepsTo p (state s z.frames z.path) w x

abbrev ToChild : Bytes → Walk → ℕ → Walk → Type 0
ToChild plan w k x = (z : State) (f : Frame) (s : Selector) → WalkAt plan w z → z.path ≡ [] → Part z.selector k f s → StepsTo plan
    (state s (f ∷ z.frames) []) w x

abbrev Answers : Bytes → Edition → ℕ → Bytes → Walk → ScopeColumns → Measured → Type 0
Answers incoming v n plan x m r = (s : Selector) (Δ : Fields) → CheckingAt incoming v n plan x s Δ → ScopeIs m Δ → MeasuredIs r (type_of Δ s)

-- what the input where x stands gives is within the limits
abbrev Limits : Bytes → Walk → ScopeColumns → Bool → Type 0
Limits plan x m within = within ≡ true → (incoming : Bytes) (v : Edition) (n : ℕ) (s : Selector) (Δ : Fields) (a : Column) → CheckingAt incoming v n plan x s Δ
    → ScopeIs m Δ → type_of Δ s ≡ gives a → within_limits a.type ≡ true

-- ---- the selector where the walk stands

-- once it has passed
pub checking-named : {incoming : Bytes} {v : Edition} {n : ℕ} {plan : Bytes} {w : Walk} {s : Selector} {Δ : Fields} → CheckingAt incoming v n plan w s Δ
    → {a : Column}
    → type_of Δ s ≡ gives a → NamedAt incoming v n plan w a
checking-named {s = s} {Δ = Δ} C e = record {
  columns = C.columns;
  selector = s;
  frames = C.frames;
  standing = C.standing;
  shallow = C.shallow;
  scope = Δ;
  scoped = C.scoped;
  passes = e;
}

module _ {incoming : Bytes} {v : Edition} {n : ℕ} {plan : Bytes} {w : Walk} {s : Selector} {Δ : Fields} (C : CheckingAt incoming v n plan w s Δ) where
  pub checking-before : w.at < w.lim
  checking-before = let b = selector-longer C.standing.here in omega (arith, C.standing.ends)

  pub checking-scope : ScopedAt incoming v n plan w Δ
  checking-scope = record { columns = C.columns; place = state s C.frames []; standing = C.standing; shallow = C.shallow; scoped = C.scoped }

  -- how many columns positions take from, and whether they are within the limits
  pub scope-is : {k : ℕ} → ((Δ : Fields) → ScopedAt incoming v n plan w Δ → k ≡ count_fields Δ) → {b : Bool}
      → (b ≡ true → (v : Edition) (n : ℕ) (plan : Bytes) (Δ : Fields) → ScopedAt incoming v n plan w Δ → Limited Δ)
      → ScopeIs (record { count = k; within = b }) Δ
  scope-is f g = record { count = sym (f Δ checking-scope); limited = λ b. g b v n plan Δ checking-scope }

  stands-for : {t : Selector} → C.standing.here.tree ≡ t → s ≡ t
  stands-for e = sym C.standing.selector ∙ e

  typed-for : {t : Selector} → C.standing.here.tree ≡ t → type_of Δ s ≡ type_of Δ t
  typed-for e = ap (λ (x : Selector). type_of Δ x) (stands-for e)

  -- whether it is a transform
  pub transform_is : {r b : Bool} → r ≡ is_transform C.standing.here.tree → r ≡ b → is_transform s ≡ b
  transform_is e f = ap is_transform (sym C.standing.selector) ∙ sym e ∙ f

  pub no_transform_lem : {B : Type 0} {t : Selector} → is_transform s ≡ false → C.standing.here.tree ≡ t → is_transform t ≡ true → B
  no_transform_lem f e h = absurd (true≢false (sym h ∙ ap is_transform (sym (stands-for e)) ∙ f))

  module _ {r : SelectorHead} (h : HeadIs plan w.at C.standing.here r) where
    pub checks-position : {k : Position} {q : Measured} → r ≡ SelectorHead.Position k → q ≡ measured_of false (column_at Δ k.0) → q ≡ measured_of false
        (type_of Δ s)
    unfolding type_of
    checks-position e f = f ∙ ap (measured_of false) (sym (typed-for (is_position_lem h e).1))

    pub checks-constant : {b : Span} {c : Cursor} → r ≡ SelectorHead.Constant b c → Measured.Passed Size.Unknown ≡ measured_of false (type_of Δ s)
    unfolding type_of
    checks-constant e = ap (measured_of false) (sym (typed-for (is-constant h e).is))

  -- ---- what it gives is within the limits

  pub transform_limited : {a : Column} → type_of Δ s ≡ gives a → {t : Selector} → C.standing.here.tree ≡ t → is_transform t ≡ true
      → within_limits a.type ≡ true
  transform_limited g e h = transform_within Δ s (ap is_transform (stands-for e) ∙ h) g

  module _ {r : SelectorHead} (h : HeadIs plan w.at C.standing.here r) {a : Column} (g : type_of Δ s ≡ gives a) where
    pub position-limited : {k : Position} {m : ScopeColumns} → r ≡ SelectorHead.Position k → ScopeIs m Δ → m.within ≡ true → within_limits a.type ≡ true
    unfolding type_of
    position-limited {k} e S b = (S.limited b).each k.0 a (sym (typed-for (is_position_lem h e).1) ∙ g)

    pub constant-limited : {b : Span} {c : Cursor} → r ≡ SelectorHead.Constant b c
        → {o : Fit} → ((t : DataType) → TypeIs One plan c.at t → o ≡ type_fit t 16 16384)
        → {q : Bool} → q ≡ within_fit o → q ≡ true → within_limits a.type ≡ true
    unfolding type_of
    constant-limited e f p z =
        let K = is-constant h e in
        ap (λ (x : Column). within_limits x.type) (sym (gives_eq (sym (typed-for K.is) ∙ g)))
        ∙ sym (within_fit_lem (dtype_of K.type.tree)) ∙ ap within_fit (sym (f (dtype_of K.type.tree) (record { type = K.type; is = refl }))) ∙ sym p ∙ z

  -- ---- its input

  -- s transforms what i gives by f
  pub record Transforms (i : Selector) (f : Column → Result Column) : Type 0 where
    pub takes : Input s i
    pub shallow : Shallow (state i C.frames [])
    pub typed : type_of Δ s ≡ (type_of Δ i >>= f)

  of-cast : {i : Selector} {t : DataType} {o : CastOption} → s ≡ cast i t o → Transforms i (check_cast t o)
  unfolding type_of
  of-cast {i} e = record {
    takes = subst (λ (x : Selector). Input x i) (sym e) i_cast;
    shallow = cast-shallow (selected e C.shallow);
    typed = ap
        (λ (x : Selector). type_of Δ x) e;
  }

  of-rename : {i : Selector} {name : Bytes} → s ≡ rename i name → Transforms i (check_rename name)
  unfolding type_of
  of-rename {i} e = record {
    takes = subst (λ (x : Selector). Input x i) (sym e) i_rename;
    shallow = rename-shallow (selected e C.shallow);
    typed =
        ap (λ (x : Selector). type_of Δ x) e;
  }

  of_struct : {i : Selector} {ss : Selectors} → s ≡ struct_mapping i ss → Transforms i (check_struct (λ fs. types_of fs ss))
  unfolding type_of
  of_struct {i} e = record {
    takes = subst (λ (x : Selector). Input x i) (sym e) i_struct;
    shallow = struct-shallow (selected e C.shallow);
    typed =
        ap (λ (x : Selector). type_of Δ x) e;
  }

  of-list-mapping : {i d : Selector} → s ≡ list_mapping i d → Transforms i (check_list (λ fs. type_of fs d))
  unfolding type_of
  of-list-mapping {i} e = record {
    takes = subst (λ (x : Selector). Input x i) (sym e) i_list;
    shallow = list-shallow (selected e C.shallow);
    typed =
        ap (λ (x : Selector). type_of Δ x) e;
  }

  of-array-mapping : {i d : Selector} → s ≡ array_mapping i d → Transforms i (check_array (λ fs. type_of fs d))
  unfolding type_of
  of-array-mapping {i} e = record {
    takes = subst (λ (x : Selector). Input x i) (sym e) i_array;
    shallow = array-shallow (selected e C.shallow);
    typed = ap (λ (x : Selector). type_of Δ x) e;
  }

  pub record Transform : Type 0 where
    pub input : Selector
    pub result : Column → Result Column
    pub transforms : Transforms input result

  pub a_transform : is_transform s ≡ true → Transform
  a_transform h = go s refl h
    where
      go : (t : Selector) → s ≡ t → is_transform t ≡ true → Transform
      go (position k) e h = absurd (true≢false (sym h))
      go (constant name t v) e h = absurd (true≢false (sym h))
      go (cast i t o) e h = record { input = i; result = _; transforms = of-cast e }
      go (rename i name) e h = record { input = i; result = _; transforms = of-rename e }
      go (struct_mapping i ss) e h = record { input = i; result = _; transforms = of_struct e }
      go (list_mapping i d) e h = record { input = i; result = _; transforms = of-list-mapping e }
      go (array_mapping i d) e h = record { input = i; result = _; transforms = of-array-mapping e }

  pub by_cast : {m : ℕ} (K : CastAt plan w.at C.standing.here m) → Transforms K.input.tree (check_cast (dtype_of K.type.tree) K.option.option)
  by_cast K = of-cast (stands-for K.is)

  pub by_rename : {m : ℕ} (K : RenameAt plan w.at C.standing.here m) → Transforms K.input.tree (check_rename K.name.bytes)
  by_rename K = of-rename (stands-for K.is)

  pub by_struct : {m : ℕ} (K : StructAt plan w.at C.standing.here m) → Transforms K.input.tree
      (check_struct (λ fs. types_of fs K.fields.selectors.trees))
  by_struct K = of_struct (stands-for K.is)

  pub by_list : {m : ℕ} (K : ListAt plan w.at C.standing.here m) → Transforms K.input.tree (check_list (λ fs. type_of fs K.element.tree))
  by_list K = of-list-mapping (stands-for K.is)

  pub by_array : {m : ℕ} (K : ArrayAt plan w.at C.standing.here m) → Transforms K.input.tree (check_array (λ fs. type_of fs K.element.tree))
  by_array K = of-array-mapping (stands-for K.is)

  module _ {i : Selector} {f : Column → Result Column} (T : Transforms i f) {x : Walk} (g : ToInput w x) where
    steps : StepsTo plan (state i C.frames []) w x
    steps = g plan (state s C.frames []) i C.standing T.takes

    checking-input : CheckingAt incoming v n plan x i Δ
    checking-input = record { columns = C.columns; frames = C.frames; standing = steps.standing; shallow = T.shallow; scoped = C.scoped }

    pub input_asks : {m : ScopeColumns} → ScopeIs m Δ → (i : Selector) × (Δ : Fields) × CheckingAt incoming v n plan x i Δ × ScopeIs m Δ
    input_asks c = (i, Δ, checking-input, c)

    pub input-stands : SelectorAt plan x.at
    input-stands = checking-input.standing.here

    pub input-falls : rank x < rank w
    input-falls = steps.falls

    module _ {m : ScopeColumns} (c : ScopeIs m Δ) {r : Measured} (h : Answers incoming v n plan x m r) where
      answer : MeasuredIs r (type_of Δ i)
      answer = h i Δ checking-input c

      pub input-refused : {k : ℕ} → r ≡ Measured.Refused k → MeasuredIs (Measured.Refused k) (type_of Δ s)
      input-refused e =
          let A = answer in
          record {
            known = true;
            is = bind_refused (type_of Δ i) f (refused-refuses A.known (type_of Δ i) (sym A.is ∙ e)) ∙ ap (measured_of true) (sym T.typed);
          }

      pub input-passed : {z : Size} {within : Bool} → r ≡ Measured.Passed z → Limits plan x m within → PassedInput incoming v n plan w x z within s Δ
      input-passed e l =
          let A = answer in
          let P = passed-gives A.known (type_of Δ i) (sym A.is ∙ e) in
          record {
            checking = C;
            input = i;
            takes = T.takes;
            column = P.column;
            passes = P.is;
            known = A.known;
            sized = P.sized;
            limited = λ b. l b incoming v n i Δ P.column checking-input c P.is;
            named = checking-named checking-input
                P.is;
          }

-- ---- a transform has one input

input-same : {s i j : Selector} → Input s i → Input s j → i ≡ j
input-same i_cast i_cast = refl
input-same i_rename i_rename = refl
input-same i_struct i_struct = refl
input-same i_list i_list = refl
input-same i_array i_array = refl

takes-input : {s i : Selector} → Input s i → is_transform s ≡ true
takes-input i_cast = refl
takes-input i_rename = refl
takes-input i_struct = refl
takes-input i_list = refl
takes-input i_array = refl

module _ {incoming : Bytes} {v : Edition} {n : ℕ} {plan : Bytes} {w x : Walk} {z : Size} {within : Bool} {s : Selector} {Δ : Fields}
    (R : PassedInput incoming v n plan w x z within s Δ) where
  abbrev C : CheckingAt incoming v n plan w s Δ
  C = R.checking

  -- neither a position nor a constant
  pub no_source : {B : Type 0} {t : Selector} → C.standing.here.tree ≡ t → is_transform t ≡ false → B
  no_source e f = absurd (true≢false (sym (takes-input R.takes) ∙ ap is_transform (sym C.standing.selector ∙ e) ∙ f))

  module _ {i : Selector} {f : Column → Result Column} (T : Transforms C i f) where
    passes : type_of Δ i ≡ gives R.column
    passes = subst (λ (j : Selector). type_of Δ j ≡ gives R.column) (input-same R.takes T.takes) R.passes

    pub input-given : {q : Measured} → q ≡ measured_of true (f R.column) → q ≡ measured_of true (type_of Δ s)
    input-given p = bind_gives (type_of Δ i) f passes p ∙ ap (measured_of true) (sym T.typed)

    pub input_measured : {q : Measured} → MeasuredIs q (f R.column) → MeasuredIs q (type_of Δ s)
    input_measured {q} M = record {
      known = M.known;
      is = bind_known M.known (type_of Δ i) f passes M.is ∙ ap (measured_of M.known) (sym T.typed);
    }

    -- the mapping t, once the kind of its input is known
    pub input-mapping : {t : Selector} {u : DataType} → C.standing.here.tree ≡ t → R.column.type ≡ u → MappingAt incoming v n plan w t i u
    input-mapping {t} {u} p q = subst (λ (y : Selector). MappingAt incoming v n plan w y i u) (sym C.standing.selector ∙ p)
        (record {
          columns = C.columns;
          frames = C.frames;
          standing = C.standing;
          shallow = C.shallow;
          scope = Δ;
          scoped = C.scoped;
          column =
              R.column;
          passes = passes;
          kind = q;
        })

-- ---- the kind of a mapping's input

pub kind-code : {incoming plan : Bytes} {t : DataType} {h k : TypeHead} → TypeHeadIs incoming plan t h → h ≡ k → (code_of (head_of t)).code ≡ (code_of
    (head_kind incoming plan k)).code
kind-code {incoming} {plan} H e = ap (λ (j : Head). (code_of j).code) (sym H.kind) ∙ ap (λ (x : TypeHead). (code_of (head_kind incoming plan x)).code) e

module _ (a : Column) where
  pub no_struct : (f : Fields → Result Fields) → ((code_of (head_of a.type)).code ≡ 18 → ⊥) → Measured.Refused 32 ≡ measured_of true (check_struct f a)
  unfolding check_struct struct_of head_of ◌>>=◌
  no_struct f h = go a.type h
    where
      go : (t : DataType) → ((code_of (head_of t)).code ≡ 18 → ⊥) → Measured.Refused 32 ≡ measured_of true (struct_of t >>= λ fs. f fs >>= λ gs. resulting
          a.name (struct gs))
      go (leaf l) h = refl
      go (struct fs) h = absurd (h refl)
      go (list t) h = refl
      go (array w t) h = refl

  pub no_list : (f : Fields → Result Column) → ((code_of (head_of a.type)).code ≡ 19 → ⊥) → Measured.Refused 32 ≡ measured_of true (check_list f a)
  unfolding check_list list_of head_of ◌>>=◌
  no_list f h = go a.type h
    where
      go : (t : DataType) → ((code_of (head_of t)).code ≡ 19 → ⊥) → Measured.Refused 32 ≡ measured_of true (list_of t >>= λ u. f (element_of u) >>= λ d. resulting
          a.name (list d.type))
      go (leaf l) h = refl
      go (struct fs) h = refl
      go (list t) h = absurd (h refl)
      go (array w t) h = refl

  pub no_array : (f : Fields → Result Column) → ((code_of (head_of a.type)).code ≡ 20 → ⊥) → Measured.Refused 32 ≡ measured_of true (check_array f a)
  unfolding check_array array_of head_of ◌>>=◌
  no_array f h = go a.type h
    where
      go : (t : DataType) → ((code_of (head_of t)).code ≡ 20 → ⊥) → Measured.Refused 32 ≡ measured_of true (array_of t >>= λ b. f (element_of
          b.element) >>= λ d. resulting a.name (array b.width d.type))
      go (leaf l) h = refl
      go (struct fs) h = refl
      go (list t) h = refl
      go (array w t) h = absurd (h refl)

  pub a_rename : (n : Bytes) {r : Measured} → MeasuredIs r (resulting n a.type) → MeasuredIs r (check_rename n a)
  unfolding check_rename
  a_rename n e = e

  pub a_struct_lem : (ss : Selectors) {fs : Fields} → a.type ≡ struct fs → {r : Measured} → r ≡ measured_of true (fields_result fs ss a.name)
      → r ≡ measured_of true (check_struct (λ fs. types_of fs ss) a)
  unfolding check_struct struct_of ◌>>=◌
  a_struct_lem ss e f = rw e f

  pub a_list_lem : (e : Selector) {t : DataType} → a.type ≡ list t → {r : Measured} → r ≡ measured_of true (element_result t e (λ u. list u) a.name)
      → r ≡ measured_of true (check_list (λ fs. type_of fs e) a)
  unfolding check_list list_of ◌>>=◌
  a_list_lem s e f = rw e f

  pub an_array_lem : (e : Selector) {w : ℕ} {t : DataType} → a.type ≡ array w t → {r : Measured} → r ≡ measured_of true (element_result t e (λ u. array w u)
      a.name) → r ≡ measured_of true (check_array (λ fs. type_of fs e) a)
  unfolding check_array array_of ◌>>=◌
  an_array_lem s e f = rw e f

module _ {incoming plan : Bytes} (a : Column) {h k : TypeHead} (H : TypeHeadIs incoming plan a.type h) (e : h ≡ k) where
  pub head_no_struct : (f : Fields → Result Fields) → ((code_of (head_kind incoming plan k)).code ≡ 18 → ⊥) → Measured.Refused 32 ≡ measured_of true
      (check_struct f a)
  head_no_struct f z = no_struct a f (λ q. z (sym (kind-code H e) ∙ q))

  pub head_no_list : (f : Fields → Result Column) → ((code_of (head_kind incoming plan k)).code ≡ 19 → ⊥) → Measured.Refused 32 ≡ measured_of true (check_list f a)
  head_no_list f z = no_list a f (λ q. z (sym (kind-code H e) ∙ q))

  pub head_no_array : (f : Fields → Result Column) → ((code_of (head_kind incoming plan k)).code ≡ 20 → ⊥) → Measured.Refused 32 ≡ measured_of true (check_array f a)
  head_no_array f z = no_array a f (λ q. z (sym (kind-code H e) ∙ q))

-- ---- what is left once the input has passed

module _ {incoming : Bytes} {v : Edition} {n : ℕ} {plan : Bytes} {w : Walk} {within : Bool} {s : Selector} {Δ : Fields} where
  rest_as : {r q : Rest} → r ≡ q → RestAnswer incoming v n plan w within s Δ q → RestIs incoming v n plan w within s Δ r
  rest_as e a = subst (λ (x : Rest). RestIs incoming v n plan w within s Δ x) (sym e) (record { answer = a })

  pub rest_of : {r q : Rest} → RestIs incoming v n plan w within s Δ r → r ≡ q → RestAnswer incoming v n plan w within s Δ q
  rest_of R e = subst (λ (x : Rest). RestAnswer incoming v n plan w within s Δ x) e R.answer

  pub none_left : {r : Rest} {q : Measured} → r ≡ nothing_left q → MeasuredIs q (type_of Δ s) → RestIs incoming v n plan w within s Δ r
  none_left {r} {q} e f = go q e f
    where
      go : (q : Measured) → r ≡ nothing_left q → MeasuredIs q (type_of Δ s) → RestIs incoming v n plan w within s Δ r
      go (Measured.Passed z) e f = rest_as e f
      go (Measured.Refused k) e f = rest_as e f

module _ {incoming : Bytes} {v : Edition} {n : ℕ} {plan : Bytes} {w x : Walk} {z : Size} {within : Bool} {s : Selector} {Δ : Fields}
    (R : PassedInput incoming v n plan w x z within s Δ) where
  abbrev D : CheckingAt incoming v n plan w s Δ
  D = R.checking

  pub some-fields : {m : ℕ} (K : StructAt plan w.at D.standing.here m) {h : TypeHead} {r : Rest} {count : ℕ} → TypeHeadIs incoming plan
      R.column.type h
      → count_selectors K.fields.selectors.trees ≡ count → r ≡ fields_left h count → RestIs incoming v n plan w within s Δ r
  some-fields K {h} {r} {count} H c e = go h H e
    where
      T : Transforms D K.input.tree (check_struct (λ fs. types_of fs K.fields.selectors.trees))
      T = by_struct D K

      refused : {k : TypeHead} → TypeHeadIs incoming plan R.column.type k → ((code_of (head_kind incoming plan k)).code ≡ 18 → ⊥)
          → MeasuredIs (Measured.Refused 32) (type_of Δ s)
      refused H z = record { known = true; is = input-given R T (head_no_struct R.column H refl _ z) }

      go : (h : TypeHead) → TypeHeadIs incoming plan R.column.type h → r ≡ fields_left h count → RestIs incoming v n plan w within s Δ r
      go (TypeHead.Leaf p l) H e = rest_as e (refused H (λ z. omega arith))
      go (TypeHead.Struct k) H e =
          let (fs, (q, j)) = is_struct_mapping H refl in
          rest_as e (record {
            input = K.input.tree;
            parts = K.fields.selectors.trees;
            scope = fs;
            name = R.column.name;
            mapping = input-mapping R T K.is q;
            counted = c;
            columns = record { count = j; limited = λ b. fields-limited fs (ap within_limits (sym q) ∙ R.limited b) };
            left = sym (input-given R T (a_struct_lem R.column K.fields.selectors.trees q refl));
          })
      go TypeHead.List H e = rest_as e (refused H (λ z. omega arith))
      go (TypeHead.Array k) H e = rest_as e (refused H (λ z. omega arith))

  pub some-list : {m : ℕ} (K : ListAt plan w.at D.standing.here m) {h : TypeHead} {r : Rest} → TypeHeadIs incoming plan R.column.type h → r ≡
      listed_left h → RestIs incoming v n plan w within s Δ r
  some-list K {h} {r} H e = go h H e
    where
      T : Transforms D K.input.tree (check_list (λ fs. type_of fs K.element.tree))
      T = by_list D K

      refused : {k : TypeHead} → TypeHeadIs incoming plan R.column.type k → ((code_of (head_kind incoming plan k)).code ≡ 19 → ⊥)
          → MeasuredIs (Measured.Refused 32) (type_of Δ s)
      refused H z = record { known = true; is = input-given R T (head_no_list R.column H refl _ z) }

      go : (h : TypeHead) → TypeHeadIs incoming plan R.column.type h → r ≡ listed_left h → RestIs incoming v n plan w within s Δ r
      go (TypeHead.Leaf p l) H e = rest_as e (refused H (λ z. omega arith))
      go (TypeHead.Struct k) H e = rest_as e (refused H (λ z. omega arith))
      go TypeHead.List H e =
          let (u, q) = is_list_mapping H refl in
          rest_as e (record {
            element = u;
            selector = K.element.tree;
            makes = λ t. list t;
            name = R.column.name;
            elements = of_list (input-mapping R T K.is q);
            limited = λ b. list-limited u (ap within_limits (sym q) ∙ R.limited b);
            left = sym (input-given R T (a_list_lem R.column K.element.tree q refl));
          })
      go (TypeHead.Array k) H e = rest_as e (refused H (λ z. omega arith))

  pub some-array : {m : ℕ} (K : ArrayAt plan w.at D.standing.here m) {h : TypeHead} {r : Rest} → TypeHeadIs incoming plan R.column.type h → r
      ≡ arrayed_left h → RestIs incoming v n plan w within s Δ r
  some-array K {h} {r} H e = go h H e
    where
      T : Transforms D K.input.tree (check_array (λ fs. type_of fs K.element.tree))
      T = by_array D K

      refused : {k : TypeHead} → TypeHeadIs incoming plan R.column.type k → ((code_of (head_kind incoming plan k)).code ≡ 20 → ⊥)
          → MeasuredIs (Measured.Refused 32) (type_of Δ s)
      refused H z = record { known = true; is = input-given R T (head_no_array R.column H refl _ z) }

      go : (h : TypeHead) → TypeHeadIs incoming plan R.column.type h → r ≡ arrayed_left h → RestIs incoming v n plan w within s Δ r
      go (TypeHead.Leaf p l) H e = rest_as e (refused H (λ z. omega arith))
      go (TypeHead.Struct k) H e = rest_as e (refused H (λ z. omega arith))
      go TypeHead.List H e = rest_as e (refused H (λ z. omega arith))
      go (TypeHead.Array k) H e =
          let (u, q) = is-array H refl in
          rest_as e (record {
            element = u;
            selector = K.element.tree;
            makes = λ t. array k t;
            name = R.column.name;
            elements = of_array (input-mapping R T K.is q);
            limited = λ b. array-limited k u (ap within_limits (sym q) ∙ R.limited b);
            left = sym (input-given R T (an_array_lem R.column K.element.tree q refl));
          })

-- ---- a mapping is a level

nests-struct : (i : Selector) (ss : Selectors) → 0 < nesting (struct_mapping i ss)
unfolding nesting
nests-struct i ss = omega arith

nests-list : (i e : Selector) → 0 < nesting (list_mapping i e)
unfolding nesting
nests-list i e = omega arith

nests-array : (i e : Selector) → 0 < nesting (array_mapping i e)
unfolding nesting
nests-array i e = omega arith

-- ---- list and array mappings

pub one-element : (t : DataType) {within : Bool} → (within ≡ true → within_limits t ≡ true) → ScopeIs (record { count = 1; within = within }) (element_of t)
unfolding count_fields
one-element t l = record { count = refl; limited = λ b. element-limited t (l b) }

pub record ElementStep (incoming : Bytes) (v : Edition) (n : ℕ) (plan : Bytes) (w : Walk) (t : DataType) (e : Selector) (x : Walk) : Type 0 where
  pub checking : CheckingAt incoming v n plan x e (element_of t)
  pub falls : rank x < rank w

module _ {incoming : Bytes} {v : Edition} {n : ℕ} {plan : Bytes} {w : Walk} where
  pub element-child_asks : {t : DataType} {e : Selector} {f : DataType → DataType} {head : ℕ} → Elements incoming v n plan w t e f head →
      ((x : State) × WalkAt plan w x) × (w.deep < 64)
  element-child_asks (of_list {i = i} {e = e} M) = (
    (state (list_mapping i e) M.frames [], M.standing),
    let a = entries-count M.standing.entries in let b = nests-list i e in omega
        (arith, M.shallow.here),
  )
  element-child_asks (of_array {i = i} {e = e} M) = (
    (state (array_mapping i e) M.frames [], M.standing),
    let a = entries-count M.standing.entries in let b = nests-array i e in omega
        (arith, M.shallow.here),
  )

  pub element_step : {t : DataType} {e : Selector} {f : DataType → DataType} {head : ℕ} {x : Walk} → Elements incoming v n plan w t e f head
      → ToChild plan w 0 x → ElementStep incoming v n plan w t e x
  element_step (of_list {i = i} {e = e} M) g =
      let S = g (state (list_mapping i e) M.frames []) (element i 0) e M.standing refl p_list in
      record {
        checking = record {
          columns = M.columns;
          frames = element i 0 ∷ M.frames;
          standing = S.standing;
          shallow = element-shallow
              M.shallow;
          scoped = c_list M.scoped M.passes M.kind;
        };
        falls = S.falls;
      }
  element_step (of_array {i = i} {e = e} M) g =
      let S = g (state (array_mapping i e) M.frames []) (element i 0) e M.standing refl p_array in
      record {
        checking = record {
          columns = M.columns;
          frames = element i 0 ∷ M.frames;
          standing = S.standing;
          shallow = array_element-shallow
              M.shallow;
          scoped = c_array M.scoped M.passes M.kind;
        };
        falls = S.falls;
      }

  pub element-small : {t : DataType} {e : Selector} {f : DataType → DataType} {head : ℕ} → Elements incoming v n plan w t e f head → head < 16384
  element-small (of_list M) = omega arith
  element-small (of_array M) = omega arith

  -- its result, by that of its element
  element-fit : {t : DataType} {e : Selector} {f : DataType → DataType} {head : ℕ} → Elements incoming v n plan w t e f head → (u : DataType)
      → fit_of (depth_of u + 1) (head + length (form u)) 16 16384 ≡ type_fit (f u) 16 16384
  element-fit (of_list M) u = fit_list u 16 16384
  element-fit (of_array {x = x} M) u = fit_array x u 16 16384

  module _ {t : DataType} {e : Selector} {f : DataType → DataType} {head : ℕ} (E : Elements incoming v n plan w t e f head) {x : Walk}
      (g : ToChild plan w 0 x) {m : ScopeColumns} (d : ScopeIs m (element_of t)) {r : Measured}
      (h : Answers incoming v n plan x m r) where
    pub element-answer : MeasuredIs r (type_of (element_of t) e)
    element-answer = h e (element_of t) (element_step E g).checking d

    pub element-refused : {k : ℕ} (name : Bytes) → r ≡ Measured.Refused k → Measured.Refused k ≡ measured_of true (element_result t e f name)
    element-refused name p =
        bind_refused (type_of (element_of t) e) (λ d. resulting name (f d.type)) (refused-refuses element-answer.known (type_of (element_of t) e)
        (sym element-answer.is ∙ p))

    module _ {z : Size} (p : r ≡ Measured.Passed z) where
      pub element-passed : PassedAs element-answer.known (type_of (element_of t) e) z
      element-passed = passed-gives element-answer.known (type_of (element_of t) e) (sym element-answer.is ∙ p)

      pub element-typed : TypedAt incoming v n plan x element-passed.column.type
      element-typed = named-typed (checking-named (element_step E g).checking element-passed.is)

      pub element-given : {o : Fit} → ((b : Bool) (u : DataType) → TypedAt incoming v n plan x u → z ≡ size_of b u → o ≡ fit_of (depth_of u + 1) (head + length
          (form u)) 16 16384)
          → {q : Measured} → q ≡ fitting_of o → (name : Bytes) → q ≡ measured_of true (element_result t e f name)
      element-given l y name =
          let P = element-passed in
          let u = P.column.type in
          bind_gives (type_of (element_of t) e) (λ d. resulting name (f d.type)) P.is
          (y ∙ ap fitting_of (l element-answer.known element-passed.column.type element-typed P.sized ∙ element-fit E element-passed.column.type)
          ∙ result_is name (f element-passed.column.type))

-- ---- struct mappings

-- what `first_child` and `child_at` ask
pub mapping_asks : {incoming : Bytes} {v : Edition} {n : ℕ} {plan : Bytes} {w : Walk} {i : Selector} {ss : Selectors} {u : DataType}
    → MappingAt incoming v n plan w (struct_mapping i ss) i u → (w.at < 65536) × (w.deep < 64)
mapping_asks {i = i} {ss = ss} M = (
  walk_small M.standing,
  let a = entries-count M.standing.entries in
      let b = nests-struct i ss in omega (arith, M.shallow.here),
)

unfoldable pub drop_selectors : ℕ → Selectors → Selectors
drop_selectors zero ss = ss
drop_selectors (suc k) snil = snil
drop_selectors (suc k) (scons s ss) = drop_selectors k ss

drop_nth : {ss : Selectors} {k : ℕ} {s : Selector} → Nth ss k s → drop_selectors k ss ≡ scons s (drop_selectors (suc k) ss)
unfolding drop_selectors
drop_nth s_here = refl
drop_nth (s_there h) = drop_nth h

drop-none : (ss : Selectors) (k : ℕ) → count_selectors ss ≤ k → drop_selectors k ss ≡ snil
unfolding drop_selectors count_selectors
drop-none snil zero h = refl
drop-none snil (suc k) h = refl
drop-none (scons s ss) zero h = absurd (omega arith)
drop-none (scons s ss) (suc k) h = drop-none ss k (omega arith)

-- the check of a struct mapping from the fields so far and the types of the others
abbrev pub rest_result : Fit → Result Fields → Measured
rest_result f (gives gs) = fitting_of (around_of 3 (rest_fit 15 16381 f gs))
rest_result f (refuses n) = Measured.Refused n

rest-begins : (x : Result Fields) (name : Bytes) → measured_of true (x >>= λ gs. resulting name (struct gs)) ≡ rest_result (Fit.Within 0 0) x
unfolding ◌>>=◌
rest-begins (gives gs) name =
    sym (result_is name (struct gs)) ∙ ap fitting_of (sym (fit_struct gs 16 16384 (omega arith) (omega arith)) ∙ ap (around_of 3) (sym (rest-start 15 16381 gs)))
rest-begins (refuses n) name = refl

rest-refused : (f : Fit) (fs : Fields) (s : Selector) (ss : Selectors) {n : ℕ} → type_of fs s ≡ refuses n → rest_result f (types_of fs
    (scons s ss)) ≡ Measured.Refused n
unfolding types_of ◌>>=◌
rest-refused f fs s ss e = rw e

rest-passed : (f : Fit) (fs : Fields) (s : Selector) (ss : Selectors) {a : Column} → type_of fs s ≡ gives a
    → rest_result f (types_of fs (scons s ss)) ≡ rest_result (added_of 15 16381 f a) (types_of fs ss)
unfolding types_of ◌>>=◌
rest-passed f fs s ss {a} e = rw e (go (types_of fs ss))
  where
    go : (x : Result Fields) → rest_result f (x >>= λ gs. gives (fcons a.name a.type gs)) ≡ rest_result (added_of 15 16381 f a) x
    go (gives gs) = ap (λ (y : Fit). fitting_of (around_of 3 y)) (rest_more 15 16381 a f gs)
    go (refuses n) = refl

pub record Passing (incoming : Bytes) (v : Edition) (n : ℕ) (plan : Bytes) (w : Walk) (count : ℕ) (m : ScopeColumns) (at : ℕ) (fit : Fit) (k : ℕ) : Type 0 where
  pub input : Selector
  pub parts : Selectors
  pub scope : Fields
  pub start : MappingAt incoming v n plan w (struct_mapping input parts) input (struct scope)
  pub counted : count_selectors parts ≡ count
  pub columns : ScopeIs m scope
  pub within : k ≤ count
  pub passed : PassedTo plan w.at k at
  pub small : Bounded 15 16381 fit
  pub keeps : (i : Selector) (ss : Selectors) (fs : Fields) (name : Bytes) → MappingAt incoming v n plan w (struct_mapping i ss) i (struct fs)
      → count_selectors ss ≡ count → ScopeIs m fs
      → measured_of true (fields_result fs ss name) ≡ rest_result fit (types_of fs (drop_selectors k ss))

none_bounded : Bounded 15 16381 (Fit.Within 0 0)
none_bounded s d e = let a : 0 ≡ s = cc in let b : 0 ≡ d = cc in (omega arith, omega arith)

module _ {incoming : Bytes} {v : Edition} {n : ℕ} {plan : Bytes} {w : Walk} {count : ℕ} {m : ScopeColumns} where
  pub passing_start : {i : Selector} {ss : Selectors} {fs : Fields} → MappingAt incoming v n plan w (struct_mapping i ss) i (struct fs)
      → count_selectors ss ≡ count → ScopeIs m fs
      → {at : ℕ} → PassedTo plan w.at 0 at → Passing incoming v n plan w count m at (Fit.Within 0 0) 0
  unfolding drop_selectors
  passing_start {i} {ss} {fs} M c f B = record {
    input = i;
    parts = ss;
    scope = fs;
    start = M;
    counted = c;
    columns = f;
    within = omega arith;
    passed = B;
    small = none_bounded;
    keeps = λ j rs gs name N d e. rest-begins (types_of gs rs) name;
  }

  module _ {at : ℕ} {fit : Fit} {k : ℕ} (O : Passing incoming v n plan w count m at fit k) where
    module _ (h : k < count) {x : Walk} (j : ChildAt w k at x) where
      stands : PartStands plan w.at k at
      stands = let c = O.counted in part-stands O.start.standing.here O.start.standing.selector O.passed (omega arith)

      g : ToChild plan w k x
      g = j plan stands

      record Child (ss : Selectors) (fs : Fields) : Type 0 where
        part : Selector
        nth : Nth ss k part
        checking : CheckingAt incoming v n plan x part fs
        falls : rank x < rank w

      child : {i : Selector} {ss : Selectors} {fs : Fields} → MappingAt incoming v n plan w (struct_mapping i ss) i (struct fs) → count_selectors ss ≡
          count → Child ss fs
      child {i} {ss} {fs} M c =
          let (s, N) = nth-there ss k (omega arith) in
          let S = g (state (struct_mapping i ss) M.frames []) (fields i) s M.standing refl (p_field N) in
          record {
            part = s;
            nth = N;
            checking = record {
              columns = M.columns;
              frames = fields i ∷ M.frames;
              standing = S.standing;
              shallow = field-shallow N M.shallow;
              scoped = c_fields M.scoped M.passes M.kind;
            };
            falls = S.falls;
          }

      pub passing-asks : (s : Selector) × (Δ : Fields) × CheckingAt incoming v n plan x s Δ × ScopeIs m Δ
      passing-asks = let N = child O.start O.counted in (N.part, O.scope, N.checking, O.columns)

      pub passing-falls : rank x < rank w
      passing-falls = (child O.start O.counted).falls

      module _ {r : Measured} (f : Answers incoming v n plan x m r) where
        rest-is : {i : Selector} {ss : Selectors} {fs : Fields} (M : MappingAt incoming v n plan w (struct_mapping i ss) i (struct fs))
            (c : count_selectors ss ≡ count) → ScopeIs m fs → (name : Bytes)
            → measured_of true (fields_result fs ss name) ≡ rest_result fit (types_of fs (scons (child M c).part (drop_selectors (suc k) ss)))
        rest-is {i} {ss} {fs} M c d name =
            O.keeps i ss fs name M c d ∙ ap (λ (rs : Selectors). rest_result fit (types_of fs rs)) (drop_nth (child M c).nth)

        pub passing-refused : {q : ℕ} → r ≡ Measured.Refused q → (i : Selector) (ss : Selectors) (fs : Fields) (name : Bytes)
            → MappingAt incoming v n plan w (struct_mapping i ss) i (struct fs) → count_selectors ss ≡ count → ScopeIs m fs
            → Measured.Refused q ≡ measured_of true (fields_result fs ss name)
        passing-refused e i ss fs name M c d =
            let N = child M c in
            let A = f N.part fs N.checking d in
            sym (rest-is M c d name ∙ rest-refused fit fs N.part (drop_selectors (suc k) ss)
            (refused-refuses A.known (type_of fs N.part) (sym A.is ∙ e)))

        module _ {z : Size} (e : r ≡ Measured.Passed z) where
          abbrev known : {i : Selector} {ss : Selectors} {fs : Fields} (M : MappingAt incoming v n plan w (struct_mapping i ss) i (struct fs))
              (c : count_selectors ss ≡ count) → ScopeIs m fs → Bool
          known {fs = fs} M c d = (f (child M c).part fs (child M c).checking d).known

          given : {i : Selector} {ss : Selectors} {fs : Fields} (M : MappingAt incoming v n plan w (struct_mapping i ss) i (struct fs))
              (c : count_selectors ss ≡ count) (d : ScopeIs m fs) → PassedAs (known M c d) (type_of fs (child M c).part) z
          given {fs = fs} M c d = passed-gives (known M c d) (type_of fs (child M c).part) (sym (f (child M c).part fs (child M c).checking d).is ∙ e)

          pub passing-named : (b : Bool) × (a : Column) × NamedAt incoming v n plan x a × (z ≡ size_of b a.type)
          passing-named = let G = given O.start O.counted O.columns in (
            known O.start O.counted O.columns,
            G.column,
            checking-named (child O.start O.counted).checking G.is,
            G.sized,
          )

          pub passing-more : {more : Fit} → ((b : Bool) (a : Column) → NamedAt incoming v n plan x a → z ≡ size_of b a.type → more ≡ added_of 15 16381 fit a)
              → {y : ℕ} → ((P : SelectorAt plan at) → y ≡ P.end) → Passing incoming v n plan w count m y more (k + 1)
          passing-more {more} A s = record {
            input = O.input;
            parts = O.parts;
            scope = O.scope;
            start = O.start;
            counted = O.counted;
            columns = O.columns;
            within = omega arith;
            passed = let c = O.counted in passed-more O.start.standing.here O.start.standing.selector O.passed (omega arith) s;
            small =
                let G = given O.start O.counted O.columns in
                subst (λ (y : Fit). Bounded 15 16381 y) (sym (added O.start O.counted O.columns)) (added_bounded 15 16381 G.column fit O.small);
            keeps = λ i ss fs name M c d.
                let N = child M c in
                let z : suc k ≡ k + 1 = omega arith in
                rest-is M c d name ∙ rest-passed fit fs N.part (drop_selectors (suc k) ss) (given M c d).is
                ∙ ap (λ (y : Fit). rest_result y (types_of fs (drop_selectors (suc k) ss))) (sym (added M c d))
                ∙ ap (λ (j : ℕ). rest_result more (types_of fs (drop_selectors j ss))) z;
          }
            where
              added : {i : Selector} {ss : Selectors} {fs : Fields} (M : MappingAt incoming v n plan w (struct_mapping i ss) i (struct fs))
                  (c : count_selectors ss ≡ count) (d : ScopeIs m fs) → more ≡ added_of 15 16381 fit (given M c d).column
              added M c d = let G = given M c d in A (known M c d) G.column (checking-named (child M c).checking G.is) G.sized

    pub passing_end : count ≤ k → {o : Fit} {r : Measured} → o ≡ around_of 3 fit → r ≡ fitting_of o
        → (i : Selector) (ss : Selectors) (fs : Fields) (name : Bytes) → MappingAt incoming v n plan w (struct_mapping i ss) i (struct fs)
        → count_selectors ss ≡ count → ScopeIs m fs → r ≡ measured_of true (fields_result fs ss name)
    unfolding types_of
    passing_end h p q i ss fs name M c d =
        q ∙ ap fitting_of (p ∙ ap (around_of 3) (sym (rest-none 15 16381 fit)))
        ∙ ap (λ (rs : Selectors). rest_result fit (types_of fs rs)) (sym (drop-none ss k (omega arith))) ∙ sym (O.keeps i ss fs name M c d)
