-- Which values a nullness allows, and that what a selector gives is one that its nullness allows. Assumes nothing.
use Prim.Native.Nat.{ℕ}
use mathlib.Core.Path.{◌≡◌, refl}
use mathlib.Core.Bool.{true}
use Rattle.layout.specs.Bytes.{Bytes}
use Rattle.layout.specs.Tree.{LeafType, leaf_of, DataType, leaf, struct, list, array, Fields}
use Rattle.layout.specs.declared.leaf.Leaf.{Leaf}
use Rattle.numeric.specs.Integers.{signed}
use Rattle.numeric.specs.Times.{finer}
use Rattle.values.specs.Value.{Value, vnull, vnumber, vtext, voverflow, vstruct, vlist, varray, Values, vnil, vcons}
use Rattle.plan.specs.Selector.{Selector, Selectors}
use Rattle.rules.specs.declared.outcome.CastOption.{CastOption}
use Rattle.rules.specs.declared.kinds.Class.{Class}
use Rattle.rules.specs.Classes.{class_of}
use Rattle.plan.specs.Check.{cast_fits_of}
use Rattle.plan.specs.Convert.{UnitChange, multiply, divide, keep, unit_change, counted, rescaled, convert_as, convert}
use Rattle.plan.specs.Run.{value_at, cast_leaf, cast_value, map_values, on_struct, on_list, on_array, eval, evals}
use Rattle.plan.specs.code.Fits.{FitsOver, over-null, over-number, over-text, over-datetime, over-struct, over-list, over-array, FitsAllOver, over_cons}
use Rattle.plan.specs.code.Fits.{FitsEachOver, over_none, over-more}
use Rattle.plan.proofs.Results.{true≠false}
use Rattle.plan.proofs.Typed.{At, here, there, Typed, t_position, t_constant, t_cast, t_rename, t_struct, t_list, t_array, TypedAll, t_nil, t_cons}
use Rattle.plan.proofs.Preserve.{only, eval-over}
use Rattle.plan.specs.Nullness.{Place, required, optional, novalue, Nullness, node, Nullnesses, nnil, ncons, top_of, inside_of, nullness_at, join_place, join}
use Rattle.plan.specs.Nullness.{join_all, of_value, of_fields, of_elements, nullness_of, nullnesses_of}
use Rattle.std.specs.Prelude.{Option, Some, None}

pub data Present : Place → Type 0 where
  is_required : Present required
  is-optional : Present optional

-- `Holds n v`: v may stand where the nullness is n. The elements of a list are each a record of one column, as `eval`
-- has them.
mutual
  pub data Holds : Nullness → Value → Type 0 where
    h_null : {ns : Nullnesses} → Holds (node optional ns) vnull
    h_number : {p : Place} {ns : Nullnesses} {k : Leaf} {n : ℕ} → Present p → Holds (node p ns) (vnumber k n)
    h_text : {p : Place} {ns : Nullnesses} {b : Bytes} → Present p → Holds (node p ns) (vtext b)
    h_over : {p : Place} {ns : Nullnesses} → Present p → Holds (node p ns) voverflow
    h_struct : {p : Place} {ns : Nullnesses} {vs : Values} → Present p → HoldsAll ns vs → Holds (node p ns) (vstruct vs)
    h_list : {p : Place} {ns : Nullnesses} {vs : Values} → Present p → HoldsEach ns vs → Holds (node p ns) (vlist vs)
    h_array : {p : Place} {ns : Nullnesses} {vs : Values} → Present p → HoldsEach ns vs → Holds (node p ns) (varray vs)

  -- a value at each place; places may be left over
  pub data HoldsAll : Nullnesses → Values → Type 0 where
    h_nil : {ns : Nullnesses} → HoldsAll ns vnil
    h_cons : {n : Nullness} {ns : Nullnesses} {v : Value} {vs : Values} → Holds n v → HoldsAll ns vs → HoldsAll (ncons n ns) (vcons v vs)

  pub data HoldsEach : Nullnesses → Values → Type 0 where
    h_none : {ns : Nullnesses} → HoldsEach ns vnil
    h_more : {ns : Nullnesses} {v : Value} {vs : Values} → HoldsAll ns (vcons v vnil) → HoldsEach ns vs → HoldsEach ns (vcons v vs)

-- ---- constants

present-left : {p : Place} (q : Place) → Present p → Present (join_place p q)
unfolding join_place
present-left required is_required = is_required
present-left optional is_required = is-optional
present-left novalue is_required = is_required
present-left q is-optional = is-optional

present-right : (p : Place) {q : Place} → Present q → Present (join_place p q)
unfolding join_place
present-right required is_required = is_required
present-right required is-optional = is-optional
present-right optional h = is-optional
present-right novalue h = h

null-right : (p : Place) {ns : Nullnesses} → Holds (node (join_place p optional) ns) vnull
unfolding join_place
null-right required = h_null
null-right optional = h_null
null-right novalue = h_null

mutual
  unfolding join join_all join_place

  left : {n : Nullness} {v : Value} → Holds n v → (m : Nullness) → Holds (join n m) v
  left h_null (node q ms) = h_null
  left (h_number h) (node q ms) = h_number (present-left q h)
  left (h_text h) (node q ms) = h_text (present-left q h)
  left (h_over h) (node q ms) = h_over (present-left q h)
  left (h_struct h a) (node q ms) = h_struct (present-left q h) (left-all a ms)
  left (h_list h a) (node q ms) = h_list (present-left q h) (left-each a ms)
  left (h_array h a) (node q ms) = h_array (present-left q h) (left-each a ms)

  left-all : {ns : Nullnesses} {vs : Values} → HoldsAll ns vs → (ms : Nullnesses) → HoldsAll (join_all ns ms) vs
  left-all h_nil ms = h_nil
  left-all (h_cons a bs) nnil = h_cons a bs
  left-all (h_cons a bs) (ncons m ms) = h_cons (left a m) (left-all bs ms)

  left-each : {ns : Nullnesses} {vs : Values} → HoldsEach ns vs → (ms : Nullnesses) → HoldsEach (join_all ns ms) vs
  left-each h_none ms = h_none
  left-each (h_more a bs) ms = h_more (left-all a ms) (left-each bs ms)

mutual
  unfolding join join_all

  right : {m : Nullness} {v : Value} → Holds m v → (n : Nullness) → Holds (join n m) v
  right h_null (node p ns) = null-right p
  right (h_number h) (node p ns) = h_number (present-right p h)
  right (h_text h) (node p ns) = h_text (present-right p h)
  right (h_over h) (node p ns) = h_over (present-right p h)
  right (h_struct h a) (node p ns) = h_struct (present-right p h) (right-all a ns)
  right (h_list h a) (node p ns) = h_list (present-right p h) (right-each a ns)
  right (h_array h a) (node p ns) = h_array (present-right p h) (right-each a ns)

  right-all : {ms : Nullnesses} {vs : Values} → HoldsAll ms vs → (ns : Nullnesses) → HoldsAll (join_all ns ms) vs
  right-all h_nil ns = h_nil
  right-all (h_cons a bs) nnil = h_cons a bs
  right-all (h_cons a bs) (ncons n ns) = h_cons (right a n) (right-all bs ns)

  right-each : {ms : Nullnesses} {vs : Values} → HoldsEach ms vs → (ns : Nullnesses) → HoldsEach (join_all ns ms) vs
  right-each h_none ns = h_none
  right-each (h_more a bs) ns = h_more (right-all a ns) (right-each bs ns)

mutual
  unfolding of_value of_fields of_elements

  pub value-holds : (v : Value) → Holds (of_value v) v
  value-holds vnull = h_null
  value-holds (vnumber k n) = h_number is_required
  value-holds (vtext b) = h_text is_required
  value-holds voverflow = h_over is_required
  value-holds (vstruct vs) = h_struct is_required (fields_hold vs)
  value-holds (vlist vs) = h_list is_required (elements_hold vs)
  value-holds (varray vs) = h_array is_required (elements_hold vs)

  fields_hold : (vs : Values) → HoldsAll (of_fields vs) vs
  fields_hold vnil = h_nil
  fields_hold (vcons v vs) = h_cons (value-holds v) (fields_hold vs)

  elements_hold : (vs : Values) → HoldsEach (of_elements vs) vs
  elements_hold vnil = h_none
  elements_hold (vcons v vs) = h_more (left-all (h_cons (value-holds v) h_nil) (of_elements vs)) (right-each (elements_hold vs) (ncons (of_value v) nnil))

-- ---- positions

at-holds : {Γ : Fields} {ρ : Values} {k : ℕ} {n : Bytes} {t : DataType} {ns : Nullnesses} → At Γ k n t → FitsAllOver Γ ρ → HoldsAll ns ρ → Holds
    (nullness_at ns k) (value_at ρ k)
unfolding value_at nullness_at
at-holds here (over_cons f fs) (h_cons h hs) = h
at-holds (there a) (over_cons f fs) (h_cons h hs) = at-holds a fs hs

-- ---- casts: a number stays present

counted-holds : {p : Place} {ns : Nullnesses} (k : Leaf) (f : Option ℕ) → Present p → Holds (node p ns) (counted k f)
unfolding counted
counted-holds k (Some m) h = h_number h
counted-holds k None h = h_over h

rescaled-holds : {p : Place} {ns : Nullnesses} (c : UnitChange) (k : Leaf) (n : ℕ) → Present p → Holds (node p ns) (rescaled c k n)
unfolding rescaled
rescaled-holds (multiply f) k n h = counted-holds k (finer (signed 64 n) f) h
rescaled-holds (divide f) k n h = h_number h
rescaled-holds keep k n h = h_number h

converted-holds : {p : Place} {ns : Nullnesses} (a b : Class) (k : Leaf) (n : ℕ) → Present p → Holds (node p ns) (convert_as a b k n)
unfolding convert_as
converted-holds (Class.Integer i) (Class.Integer j) k n h = h_number h
converted-holds (Class.Integer i) (Class.Float g) k n h = h_number h
converted-holds (Class.Integer i) (Class.Datetime v) k n h = h_number h
converted-holds (Class.Integer i) Class.Other k n h = h_number h
converted-holds (Class.Float f) (Class.Integer j) k n h = h_number h
converted-holds (Class.Float f) (Class.Float g) k n h = h_number h
converted-holds (Class.Float f) (Class.Datetime v) k n h = h_number h
converted-holds (Class.Float f) Class.Other k n h = h_number h
converted-holds (Class.Datetime u) (Class.Integer j) k n h = h_number h
converted-holds (Class.Datetime u) (Class.Float g) k n h = h_number h
converted-holds (Class.Datetime u) (Class.Datetime v) k n h = rescaled-holds (unit_change u v) k n h
converted-holds (Class.Datetime u) Class.Other k n h = h_number h
converted-holds Class.Other b k n h = h_number h

leaf-holds : (k : Leaf) {n : Nullness} {v : Value} → Holds n v → Holds n (cast_leaf k v)
unfolding cast_leaf convert
leaf-holds k h_null = h_null
leaf-holds k (h_number {k = i} {n} h) = converted-holds (class_of i) (class_of k) k n h
leaf-holds k (h_text h) = h_text h
leaf-holds k (h_over h) = h_over h
leaf-holds k (h_struct h a) = h_struct h a
leaf-holds k (h_list h a) = h_list h a
leaf-holds k (h_array h a) = h_array h a

value-cast : (t : DataType) {n : Nullness} {v : Value} → Holds n v → Holds n (cast_value t v)
unfolding cast_value
value-cast (leaf l) h = leaf-holds (leaf_of l) h
value-cast (struct fs) h = h
value-cast (list t) h = h
value-cast (array w t) h = h

-- nothing is inside a leaf
leaf_alone : {l : LeafType} {n : Nullness} {v : Value} → FitsOver (leaf l) v → Holds n v → Holds (node (top_of n) nnil) v
leaf_alone over-null h_null = h_null
leaf_alone (over-number e f g) (h_number h) = h_number h
leaf_alone (over-text e f) (h_text h) = h_text h
leaf_alone (over-datetime e) (h_over h) = h_over h

cast-holds : (t u : DataType) (o : CastOption) {n : Nullness} {v : Value} → cast_fits_of t u o ≡ true → FitsOver t v → Holds n v → Holds
    (node (top_of n) nnil) (cast_value u v)
unfolding cast_fits_of
cast-holds (leaf l) u o e f h = value-cast u (leaf_alone f h)
cast-holds (struct fs) u o e f h = true≠false e refl
cast-holds (list t) u o e f h = true≠false e refl
cast-holds (array w t) u o e f h = true≠false e refl

-- ---- mappings

struct_holds : {fs : Fields} {n : Nullness} {ms : Nullnesses} {v : Value} (f : Values → Values) →
    ((vs : Values) → FitsAllOver fs vs → HoldsAll (inside_of n) vs → HoldsAll ms (f vs)) → FitsOver (struct fs) v → Holds n v
    → Holds (node (top_of n) ms) (on_struct f v)
unfolding on_struct
struct_holds f g over-null h_null = h_null
struct_holds f g (over-struct a) (h_struct h b) = h_struct h (g _ a b)

each_holds : {t : DataType} {ns : Nullnesses} {m : Nullness} {vs : Values} (f : Value → Value) →
    ((v : Value) → FitsOver t v → HoldsAll ns (vcons v vnil) → Holds m (f v)) → FitsEachOver t vs → HoldsEach ns vs
    → HoldsEach (ncons m nnil) (map_values f vs)
unfolding map_values
each_holds f g over_none h_none = h_none
each_holds f g (over-more a fs) (h_more b bs) = h_more (h_cons (g _ a b) h_nil) (each_holds f g fs bs)

list-holds : {t : DataType} {n m : Nullness} {v : Value} (f : Value → Value) → ((v : Value) → FitsOver t v → HoldsAll (inside_of n) (vcons v vnil) →
    Holds m (f v)) → FitsOver (list t) v → Holds n v
    → Holds (node (top_of n) (ncons m nnil)) (on_list f v)
unfolding on_list
list-holds f g over-null h_null = h_null
list-holds f g (over-list c a) (h_list h b) = h_list h (each_holds f g a b)

array-holds : {w : ℕ} {t : DataType} {n m : Nullness} {v : Value} (f : Value → Value) →
    ((v : Value) → FitsOver t v → HoldsAll (inside_of n) (vcons v vnil) → Holds m (f v)) → FitsOver (array w t) v → Holds n v
    → Holds (node (top_of n) (ncons m nnil)) (on_array f v)
unfolding on_array
array-holds f g over-null h_null = h_null
array-holds f g (over-array c a) (h_array h b) = h_array h (each_holds f g a b)

-- ---- the selectors

mutual
  unfolding eval evals nullness_of nullnesses_of

  pub eval-holds : {Γ : Fields} {ρ : Values} {s : Selector} {n : Bytes} {t : DataType} {ns : Nullnesses} → Typed Γ s n t → FitsAllOver Γ ρ → HoldsAll ns
      ρ → Holds (nullness_of ns s) (eval ρ s)
  eval-holds (t_position a) f h = at-holds a f h
  eval-holds (t_constant {v = v} g) f h = value-holds v
  eval-holds (t_cast {t = t} {u} {o} d r b) f h = cast-holds t u o r (eval-over d f) (eval-holds d f h)
  eval-holds (t_rename d b) f h = eval-holds d f h
  eval-holds (t_struct d ds b) f h = struct_holds _ (λ vs g k. evals_hold ds g k) (eval-over d f) (eval-holds d f h)
  eval-holds (t_list d e b) f h = list-holds _ (λ v g k. eval-holds e (only g) k) (eval-over d f) (eval-holds d f h)
  eval-holds (t_array d e b) f h = array-holds _ (λ v g k. eval-holds e (only g) k) (eval-over d f) (eval-holds d f h)

  pub evals_hold : {Γ : Fields} {ρ : Values} {ss : Selectors} {fs : Fields} {ns : Nullnesses} → TypedAll Γ ss fs → FitsAllOver Γ ρ → HoldsAll ns ρ →
      HoldsAll (nullnesses_of ns ss) (evals ρ ss)
  evals_hold t_nil f h = h_nil
  evals_hold (t_cons d ds) f h = h_cons (eval-holds d f h) (evals_hold ds f h)
