-- Where a walk through selectors that passed the check stops, what is to be asked next says what is asked there.
-- Assumes nothing.
use Prim.Native.Nat.{ℕ}
use mathlib.Core.Path.{◌≡◌, refl}
use mathlib.Core.Bool.{Bool, true, false}
use mathlib.Core.List.{List, [], ◌∷◌}
use Rattle.layout.specs.Bytes.{Bytes}
use Rattle.layout.specs.Tree.{LeafType, null, boolean, integer, float, date, datetime, string, binary, categorical, decimal, DataType, leaf, struct, list}
use Rattle.layout.specs.Tree.{array, Fields}
use Rattle.layout.specs.declared.leaf.TimeUnit.{TimeUnit}
use Rattle.rules.specs.declared.outcome.CastOption.{CastOption}
use Rattle.values.specs.Value.{Value, Values}
use Rattle.plan.specs.Selector.{Selector, position, constant, cast, struct_mapping, list_mapping, array_mapping, Selectors}
use Rattle.plan.specs.Run.{value_at}
use Rattle.plan.specs.code.Fits.{FitsAllOver}
use Rattle.walk.specs.code.State.{Frame, fields, element, input_of, State, state}
use Rattle.walk.specs.code.Moves.{Stopped, s_column, s_constant, s_cast, s_rename, s_struct, s_list, s_array, s_no_element, s_no_field, Input as InputOf}
use Rattle.walk.specs.code.Moves.{i_cast, i_rename, i_struct, i_list, i_array}
use Rattle.overflow.specs.code.Want.{SmallWant}
use Rattle.overflow.specs.code.Some.{some, asked}
use Rattle.overflow.specs.code.Seek.{answered, column_stop, ran_stop, constant_stop, time_stop, cast_stop, struct_stop, list_stop, stop_at, stop_of}
use Rattle.overflow.specs.declared.want.Want.{Want}
use Rattle.overflow.specs.declared.want.Want.TheVariants.{Parts, Element, Beyond}
use Rattle.overflow.specs.declared.stop.Stop.{Stop}
use Rattle.overflow.specs.declared.stop.Stop.TheVariants.{No, Yes, Input, Outward}
use Rattle.overflow.proofs.Before.{small-before}
use Rattle.overflow.proofs.Scoped.{TypedState}
use Rattle.overflow.proofs.Moving.{outward-fields, outward-element, rename-typed, cast-typed, struct-typed, list-typed, array_typed, rename-asked}
use Rattle.overflow.proofs.Stopping.{column-asked, constant-none, constant-top, constant-fields, constant-element, a_struct_lem, a_list_lem, an_array_lem, cast-path}
use Rattle.overflow.proofs.Stopping.{cast_nested, cast-other, cast-parts, cast-element, cast-beyond, struct-end, list-end, array-end, struct-end-element}
use Rattle.overflow.proofs.Stopping.{struct-end-beyond, list-end-parts, list-end-beyond, array-end-parts, array-end-beyond, no_field, no_element_lem}

module _ (Γ : Fields) (ρ : Values) (x : State) (w : Want) where
  -- a is asked of the input
  pub record InputMeans (a : Want) : Type 0 where
    pub input : Selector
    pub is : InputOf x.selector input
    pub typed : TypedState Γ (state input x.frames x.path)
    pub small : SmallWant a
    pub same : asked ρ x w ≡ asked ρ (state input x.frames x.path) a

  -- a is asked of the innermost mapping's input
  pub record OutwardMeans (a : Want) : Type 0 where
    pub frame : Frame
    pub outer : List Frame
    pub frames : x.frames ≡ frame ∷ outer
    pub typed : TypedState Γ (state (input_of frame) outer [])
    pub small : SmallWant a
    pub same : asked ρ x w ≡ asked ρ (state (input_of frame) outer []) a

  abbrev pub Means : Stop → Type 0
  Means No = asked ρ x w ≡ false
  Means Yes = asked ρ x w ≡ true
  Means (Input a) = InputMeans a
  Means (Outward a) = OutwardMeans a

module _ {Γ : Fields} {ρ : Values} (r : FitsAllOver Γ ρ) where
  answered-means : (x : State) (w : Want) (b : Bool) → asked ρ x w ≡ b → Means Γ ρ x w (answered b)
  unfolding answered
  answered-means x w true e = e
  answered-means x w false e = e

  constant-means : (n : Bytes) (t : DataType) (v : Value) (E : List Frame) (p : List ℕ) (w : Want) (b : Bool) → some w p v ≡ b → TypedState Γ
      (state (constant n t v) E p)
      → Means Γ ρ (state (constant n t v) E p) w (constant_stop b E)
  unfolding constant_stop ran_stop
  constant-means n t v E p w false e T = constant-none ρ w n t v p E e
  constant-means n t v [] p w true e T = constant-top ρ w n t v p e
  constant-means n t v (fields s ∷ E) p w true e T = record {
    frame = fields s;
    outer = E;
    frames = refl;
    typed = outward-fields [] T.scoped;
    small = tt;
    same = constant-fields ρ w n t v p s E e;
  }
  constant-means n t v (element s i ∷ E) p w true e T = record {
    frame = element s i;
    outer = E;
    frames = refl;
    typed = outward-element [] T.scoped;
    small = tt;
    same = constant-element ρ w n t v p s i E e;
  }

  module _ {E : List Frame} {s : Selector} {o : CastOption} where
    time-means : (c : TimeUnit) (z : Bytes) (w : Want) → SmallWant w → TypedState Γ (state (cast s (leaf (datetime c z)) o) E [])
        → Means Γ ρ (state (cast s (leaf (datetime c z)) o) E []) w (cast_stop [] (leaf (datetime c z)) w)
    unfolding cast_stop time_stop
    time-means c z Parts k T = cast-parts r c z T
    time-means c z Element k T = cast-element r c z T
    time-means c z (Beyond d u) k T = record { input = s; is = i_cast; typed = cast-typed [] T; small = small-before c u k; same = cast-beyond r c z T d u k }

    leaf-means : (l : LeafType) (w : Want) → SmallWant w → TypedState Γ (state (cast s (leaf l) o) E []) → Means Γ ρ (state (cast s (leaf l) o) E []) w
        (cast_stop [] (leaf l) w)
    unfolding cast_stop time_stop
    leaf-means null w k T = cast-other r w null refl T
    leaf-means boolean w k T = cast-other r w boolean refl T
    leaf-means (integer i) w k T = cast-other r w (integer i) refl T
    leaf-means (float f) w k T = cast-other r w (float f) refl T
    leaf-means date w k T = cast-other r w date refl T
    leaf-means (datetime c z) w k T = time-means c z w k T
    leaf-means string w k T = cast-other r w string refl T
    leaf-means binary w k T = cast-other r w binary refl T
    leaf-means categorical w k T = cast-other r w categorical refl T
    leaf-means (decimal d) w k T = cast-other r w (decimal d) refl T

    cast-means : (t : DataType) (p : List ℕ) (w : Want) → SmallWant w → TypedState Γ (state (cast s t o) E p) → Means Γ ρ (state (cast s t o) E p) w
        (cast_stop p t w)
    unfolding cast_stop
    cast-means (leaf l) [] w k T = leaf-means l w k T
    cast-means (struct fs) [] w k T = cast_nested r w [] a_struct_lem T
    cast-means (list t) [] w k T = cast_nested r w [] a_list_lem T
    cast-means (array n t) [] w k T = cast_nested r w [] an_array_lem T
    cast-means t (j ∷ p) w k T = cast-path r w j p T

  module _ {E : List Frame} {s : Selector} where
    struct-means : {ss : Selectors} (w : Want) → TypedState Γ (state (struct_mapping s ss) E []) → Means Γ ρ (state (struct_mapping s ss) E []) w
        (struct_stop [] w)
    unfolding struct_stop
    struct-means {ss} Parts T = record { input = s; is = i_struct; typed = struct-typed [] T; small = tt; same = struct-end ρ E s ss }
    struct-means Element T = struct-end-element r T
    struct-means (Beyond d u) T = struct-end-beyond r T d u

    list-means : {e : Selector} (w : Want) → TypedState Γ (state (list_mapping s e) E []) → Means Γ ρ (state (list_mapping s e) E []) w (list_stop w)
    unfolding list_stop
    list-means Parts T = list-end-parts r T
    list-means {e} Element T = record { input = s; is = i_list; typed = list-typed [] T; small = tt; same = list-end ρ E s e }
    list-means (Beyond d u) T = list-end-beyond r T d u

    array-means : {e : Selector} (w : Want) → TypedState Γ (state (array_mapping s e) E []) → Means Γ ρ (state (array_mapping s e) E []) w (list_stop w)
    unfolding list_stop
    array-means Parts T = array-end-parts r T
    array-means {e} Element T = record { input = s; is = i_array; typed = array_typed [] T; small = tt; same = array-end ρ E s e }
    array-means (Beyond d u) T = array-end-beyond r T d u

  pub stop_means : {x : State} → Stopped x → TypedState Γ x → (w : Want) → SmallWant w → Means Γ ρ x w (stop_of ρ x w)
  unfolding stop_at column_stop struct_stop
  stop_means (s_column {k = k} {p = p}) T w m = answered-means (state (position k) [] p) w (some w p (value_at ρ k.0)) (column-asked ρ w k p)
  stop_means (s_constant {n = n} {t = t} {v = v} {E = E} {p = p}) T w m = constant-means n t v E p w (some w p v) refl T
  stop_means (s_cast {t = t} {p = p}) T w m = cast-means t p w m T
  stop_means (s_rename {s = s} {n = n} {E = E}) T w m = record {
    input = s;
    is = i_rename;
    typed = rename-typed [] T;
    small = m;
    same = rename-asked ρ w
        E [] s n;
  }
  stop_means s_struct T w m = struct-means w T
  stop_means s_list T w m = list-means w T
  stop_means s_array T w m = array-means w T
  stop_means (s_no_element h) T w m = no_element_lem h T
  stop_means (s_no_field {k = k} {p = p} h) T w m = no_field r w k p h T
