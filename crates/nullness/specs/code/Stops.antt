-- Where a walk through a plan stops, for the question whether a required field may stand there: an answer, or the
-- question goes on to the input of the transform. It is right where the selectors passed the check
-- (proofs/Meaning.antt).
use Rattle.std.specs.Prelude.{ℕ, ◌≡◌, Bool, true, false, not, List, [], ◌∷◌, ◌++◌}
use Rattle.layout.specs.Bytes.{Bytes}
use Rattle.layout.specs.Tree.{DataType, Fields}
use Rattle.plan.specs.Result.{gives}
use Rattle.plan.specs.Selector.{Selector, position, constant, cast, rename, struct_mapping, list_mapping, array_mapping}
use Rattle.plan.specs.Check.{Column, type_of}
use Rattle.plan.specs.Nullness.{Nullnesses, nullness_at, inside_of, nullness_of}
use Rattle.walk.specs.code.State.{Frame, fields, element, State, state}
use Rattle.walk.specs.code.Walks.{WalkAt}
use Rattle.walk.specs.declared.walk.Walk.{Walk}
use Rattle.overflow.specs.code.Some.{some_sought}
use Rattle.overflow.specs.code.Overflows.{TopAt}
use Rattle.overflow.specs.declared.scan.Sought.{Sought}
use Rattle.nullness.specs.code.Places.{Leads, fills_at}
use Rattle.nullness.specs.declared.stop.Stop.{Stop}
use Rattle.nullness.specs.declared.stop.Stop.TheVariants.{Passes, Fails, Input}

-- what is known of the columns that positions take inside the entered mappings
unfoldable pub scope_of : Nullnesses → List Frame → Nullnesses
scope_of N [] = N
scope_of N (fields s ∷ E) = inside_of (nullness_of (scope_of N E) s)
scope_of N (element s i ∷ E) = inside_of (nullness_of (scope_of N E) s)

-- a required field may stand where a walk stands
unfoldable pub fills_here : Nullnesses → State → Bool
fills_here N x = fills_at (nullness_of (scope_of N x.frames) x.selector) x.path

unfoldable pub answered : Bool → Stop
answered true = Passes
answered false = Fails

-- a column; inside a mapping a walk that passed the check stops at no position
unfoldable pub column_stop : Bool → List Frame → Stop
column_stop b [] = answered b
column_stop b (f ∷ E) = Fails

-- a cast, a rename or a mapping keeps its input's; below a cast there is no value
unfoldable pub input_stop : List ℕ → Stop
input_stop [] = Input
input_stop (k ∷ p) = Passes

unfoldable pub stop_at : Nullnesses → Selector → List Frame → List ℕ → Stop
stop_at N (position k) E p = column_stop (fills_at (nullness_at N k.0) p) E
stop_at N (constant n t v) E p = answered (not (some_sought Sought.Null p v))
stop_at N (cast s t o) E p = input_stop p
stop_at N (rename s n) E p = input_stop p
stop_at N (struct_mapping s ss) E p = input_stop p
stop_at N (list_mapping s e) E p = input_stop p
stop_at N (array_mapping s e) E p = input_stop p

abbrev pub stop_of : Nullnesses → State → Stop
stop_of N x = stop_at N x.selector x.frames x.path

-- the walk begins at a column's selector, which passed the check over the columns Γ, with a path into what it gives
pub record Follows (plan : Bytes) (w : Walk) (Γ : Fields) : Type 0 where
  pub selector : Selector
  pub path : List ℕ
  pub standing : WalkAt plan w (state selector [] path)
  pub column : Column
  pub passes : type_of Γ selector ≡ gives column
  pub end : DataType
  pub leads : Leads column.type path end

-- a column's selector passed the check over the columns Γ; from the type that it gives the path p leads to the type u
pub record PlaceAt (plan : Bytes) (at : ℕ) (Γ : Fields) (p : List ℕ) (u : DataType) : Type 0 where
  pub top : TopAt plan at Γ
  pub leads : Leads top.column.type p u

-- the same, to a list or an array whose elements are of the type u
pub record ElementAt (plan : Bytes) (at : ℕ) (Γ : Fields) (p : List ℕ) (u : DataType) : Type 0 where
  pub top : TopAt plan at Γ
  pub leads : Leads top.column.type (p ++ (0 ∷ [])) u
