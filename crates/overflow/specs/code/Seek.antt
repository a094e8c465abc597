-- What is to be asked where a walk stops, and of what. It is right where the selectors passed the check
-- (proofs/Meaning.antt, `stop_means`).
use Rattle.std.specs.Prelude.{ℕ, ◌≡◌, Bool, true, false, List, [], ◌∷◌}
use Rattle.layout.specs.Bytes.{Bytes}
use Rattle.layout.specs.Tree.{leaf_of, DataType, leaf, struct, list, array, Fields, dtype_of}
use Rattle.layout.specs.Layout.{deepest}
use Rattle.layout.specs.code.Stands.{TypeAt}
use Rattle.layout.specs.declared.edition.Edition.TheVariants.{One}
use Rattle.values.specs.Value.{Values}
use Rattle.values.specs.code.Stands.{ValueAt}
use Rattle.plan.specs.Result.{gives}
use Rattle.plan.specs.Selector.{Selector, position, constant, cast, rename, struct_mapping, list_mapping, array_mapping}
use Rattle.plan.specs.Check.{Column, type_of}
use Rattle.plan.specs.Convert.{unit_change}
use Rattle.plan.specs.Run.{value_at}
use Rattle.walk.specs.code.State.{Frame, fields, element, State, state}
use Rattle.walk.specs.code.Walks.{WalkAt}
use Rattle.walk.specs.declared.walk.Walk.{Walk}
use Rattle.overflow.specs.code.Want.{bounds_before, time_of}
use Rattle.overflow.specs.code.Some.{some}
use Rattle.overflow.specs.declared.want.Timed.{Timed}
use Rattle.overflow.specs.declared.want.Timed.TheVariants.{In, Never}
use Rattle.overflow.specs.declared.want.Want.{Want}
use Rattle.overflow.specs.declared.want.Want.TheVariants.{Parts, Element, Beyond}
use Rattle.overflow.specs.declared.stop.Stop.{Stop}
use Rattle.overflow.specs.declared.stop.Stop.TheVariants.{No, Yes, Input, Outward}

unfoldable pub answered : Bool → Stop
answered true = Yes
answered false = No

-- a column of the record; inside a mapping a walk that passed the check stops at no position
unfoldable pub column_stop : Bool → List Frame → Stop
column_stop b [] = answered b
column_stop b (f ∷ E) = Yes

-- a constant is in the output where it is run: where the innermost mapping's input is a struct, or has an element
unfoldable pub ran_stop : List Frame → Stop
ran_stop [] = Yes
ran_stop (fields s ∷ E) = Outward Parts
ran_stop (element s i ∷ E) = Outward Element

unfoldable pub constant_stop : Bool → List Frame → Stop
constant_stop true E = ran_stop E
constant_stop false E = No

-- a cast to a date-time of the unit c: what is wanted of its input
unfoldable pub time_stop : Timed → Want → Stop
time_stop (In c) Parts = No
time_stop (In c) Element = No
time_stop (In c) (Beyond d u) = Input (Beyond (bounds_before (unit_change c u) d) c)
time_stop Never w = No

-- no other cast gives a date-time, a struct or a list
unfoldable pub cast_stop : List ℕ → DataType → Want → Stop
cast_stop [] (leaf l) w = time_stop (time_of (leaf_of l)) w
cast_stop [] (struct fs) w = No
cast_stop [] (list t) w = No
cast_stop [] (array n t) w = No
cast_stop (k ∷ p) t w = No

-- a struct mapping has a struct where its input has, a list or array mapping an element
unfoldable pub struct_stop : List ℕ → Want → Stop
struct_stop [] Parts = Input Parts
struct_stop [] Element = No
struct_stop [] (Beyond d u) = No
struct_stop (k ∷ p) w = No

unfoldable pub list_stop : Want → Stop
list_stop Parts = No
list_stop Element = Input Element
list_stop (Beyond d u) = No

unfoldable pub stop_at : Values → Selector → List Frame → List ℕ → Want → Stop
stop_at ρ (position k) E p w = column_stop (some w p (value_at ρ k.0)) E
stop_at ρ (constant n t v) E p w = constant_stop (some w p v) E
stop_at ρ (cast s t o) E p w = cast_stop p t w
stop_at ρ (rename s n) E p w = Input w
stop_at ρ (struct_mapping s ss) E p w = struct_stop p w
stop_at ρ (list_mapping s e) E p w = list_stop w
stop_at ρ (array_mapping s e) E p w = list_stop w

abbrev pub stop_of : Values → State → Want → Stop
stop_of ρ x w = stop_at ρ x.selector x.frames x.path w

-- a type in a plan, and after it a value of it: a constant
pub record RawIn (plan : Bytes) (t : ℕ) : Type 0 where
  pub type : TypeAt One deepest plan t
  pub value : ValueAt (dtype_of type.tree) plan type.end

-- the walk begins at a column's selector, which passed the check over the columns Γ
pub record Seeks (plan : Bytes) (w : Walk) (Γ : Fields) : Type 0 where
  pub selector : Selector
  pub path : List ℕ
  pub standing : WalkAt plan w (state selector [] path)
  pub column : Column
  pub passes : type_of Γ selector ≡ gives column
