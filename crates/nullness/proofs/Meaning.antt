-- Where a walk through selectors that passed the check stops, the answer is right. Assumes nothing.
use Prim.Native.Nat.{ℕ, ◌<◌}
use mathlib.Core.Path.{◌≡◌, refl, ap}
use mathlib.Core.Bool.{Bool, true, false, not}
use mathlib.Core.List.{List, [], ◌∷◌}
use Rattle.layout.specs.Bytes.{Bytes}
use Rattle.layout.specs.Tree.{DataType, Fields}
use Rattle.layout.specs.declared.columns.Position.{Position}
use Rattle.rules.specs.declared.outcome.CastOption.{CastOption}
use Rattle.values.specs.Value.{Value}
use Rattle.plan.specs.Selector.{Selector, position, constant, cast}
use Rattle.plan.specs.Nullness.{Place, Nullnesses, nullness_at, nullness_of}
use Rattle.plan.specs.Marks.{allowed}
use Rattle.plan.specs.code.Paths.{place_in}
use Rattle.plan.proofs.Typed.{Typed, t_position, t_constant}
use Rattle.plan.proofs.Paths.{place-below-cast}
use Rattle.walk.specs.code.State.{Frame, element, State, state}
use Rattle.walk.specs.code.Moves.{Stopped, s_column, s_constant, s_cast, s_rename, s_struct, s_list, s_array, s_no_element, s_no_field, Input as InputOf}
use Rattle.walk.specs.code.Moves.{i_cast, i_rename, i_struct, i_list, i_array}
use Rattle.overflow.specs.code.Some.{some_sought}
use Rattle.overflow.specs.declared.scan.Sought.{Sought}
use Rattle.overflow.proofs.Scoped.{Scoped, in_list, in_array}
use Rattle.nullness.specs.code.Places.{Leads, fills_at}
use Rattle.nullness.specs.code.Stops.{scope_of, fills_here, answered, column_stop, input_stop, stop_at, stop_of}
use Rattle.nullness.specs.declared.stop.Stop.{Stop}
use Rattle.nullness.specs.declared.stop.Stop.TheVariants.{Passes, Fails, Input}
use Rattle.nullness.proofs.Constants.{constant_fills}
use Rattle.nullness.proofs.Tracing.{Traced, only-first, to-rename, to-cast, to-struct, to-list, to-array, missing-field}

module _ (Γ : Fields) (N : Nullnesses) (x : State) where
  -- it is up to the input
  pub record InputMeans : Type 0 where
    pub input : Selector
    pub is : InputOf x.selector input
    pub traced : Traced Γ (state input x.frames x.path)
    pub same : fills_here N x ≡ fills_here N (state input x.frames x.path)

  abbrev pub Means : Stop → Type 0
  Means Passes = fills_here N x ≡ true
  Means Fails = fills_here N x ≡ false
  Means Input = InputMeans

answered-means : (Γ : Fields) (N : Nullnesses) (x : State) (b : Bool) → fills_here N x ≡ b → Means Γ N x (answered b)
unfolding answered
answered-means Γ N x true e = e
answered-means Γ N x false e = e

constant-here : (N : Nullnesses) (E : List Frame) {Δ : Fields} {n m : Bytes} {t u : DataType} {v : Value} {p : List ℕ} {k : DataType} → Typed Δ
    (constant n k v) m t → Leads t p u
    → fills_here N (state (constant n k v) E p) ≡ not (some_sought Sought.Null p v)
unfolding fills_here nullness_of
constant-here N E (t_constant f) L = constant_fills L f

no_element_lem : {B : Type 0} {Γ Δ : Fields} {E : List Frame} {s : Selector} {i : ℕ} {k : Position} {n : Bytes} {t : DataType} → 0 < k.0 → Scoped Γ
    (element s i ∷ E) Δ
    → Typed Δ (position k) n t → B
no_element_lem h (in_list c d) (t_position a) = only-first a h
no_element_lem h (in_array c d) (t_position a) = only-first a h

module _ (Γ : Fields) (N : Nullnesses) {E : List Frame} {s : Selector} where
  -- nothing is below a cast
  cast-means : (p : List ℕ) (t : DataType) (o : CastOption) → Traced Γ (state (cast s t o) E p) → Means Γ N (state (cast s t o) E p) (input_stop p)
  unfolding input_stop fills_here nullness_of place_in allowed
  cast-means [] t o T = record { input = s; is = i_cast; traced = to-cast T.zeroed T.scoped T.typed; same = refl }
  cast-means (k ∷ p) t o T = ap (λ (q : Place). allowed q true) (place-below-cast (scope_of N E) p s t o k)

pub stop_means : {Γ : Fields} (N : Nullnesses) {x : State} → Stopped x → Traced Γ x → Means Γ N x (stop_of N x)
unfolding stop_at column_stop input_stop fills_here scope_of nullness_of place_in
stop_means {Γ} N (s_column {k = k} {p = p}) T = answered-means Γ N (state (position k) [] p) (fills_at (nullness_at N k.0) p) refl
stop_means {Γ} N (s_constant {n = n} {t = t} {v = v} {E = E} {p = p}) T =
    answered-means Γ N (state (constant n t v) E p) (not (some_sought Sought.Null p v)) (constant-here N E T.typed T.leads)
stop_means {Γ} N (s_cast {t = t} {o = o} {p = p}) T = cast-means Γ N p t o T
stop_means N (s_rename {s = s}) T = record { input = s; is = i_rename; traced = to-rename T.zeroed T.scoped T.typed T.leads; same = refl }
stop_means N (s_struct {s = s}) T = record { input = s; is = i_struct; traced = to-struct T.zeroed T.scoped T.typed; same = refl }
stop_means N (s_list {s = s}) T = record { input = s; is = i_list; traced = to-list T.zeroed T.scoped T.typed; same = refl }
stop_means N (s_array {s = s}) T = record { input = s; is = i_array; traced = to-array T.zeroed T.scoped T.typed; same = refl }
stop_means N (s_no_element h) T = no_element_lem h T.scoped T.typed
stop_means N (s_no_field h) T = missing-field T.zeroed T.scoped h T.typed T.leads
