-- 54 and 55 in the builders (document 02, L5): what their two tests say, case by case and in the check's terms. Assumes
-- nothing.
use mathlib.Core.Path.{◌≡◌, refl}
use mathlib.Core.Bool.{Bool, true, false, ◌&&◌, ◌||◌, not}
use mathlib.Core.Logic.{◌↔◌}
use Rattle.layout.specs.Tree.{LeafType, leaf_of, Label, ColumnType, cleaf, cstruct, clist, carray, Columns, ccons, dtype_of}
use Rattle.rules.specs.Classes.{is_null}
use Rattle.values.specs.Value.{Value, vnull, vnumber, vtext, voverflow, vstruct, vlist, varray, Values, vcons, is_null_value}
use Rattle.values.specs.Fits.{Fits}
use Rattle.values.specs.Filled.{required_of, Filled}
use Rattle.plan.specs.Nullness.{nnil, top_of, nullness_at, of_value, of_fields}
use Rattle.plan.specs.Marks.{place_of, allowed, given, meets, meets_all}
use Rattle.plan.proofs.Results.{true≠false}
use Rattle.plan.proofs.Exact.{nowhere-meets, constant_exact}
use Rattle.matching.specs.Build.{is_null_type, keeps_required, fills_required}

-- ---- 55

placed-kept : (x b : Bool) → (not b || x) ≡ allowed (place_of x) b
unfolding allowed
placed-kept true true = refl
placed-kept true false = refl
placed-kept false true = refl
placed-kept false false = refl

nested_kept : (a b : Bool) → (not b || (a && true)) ≡ allowed (place_of a) b
unfolding allowed
nested_kept true true = refl
nested_kept true false = refl
nested_kept false true = refl
nested_kept false false = refl

-- it is what the check asks of the column's position
pub keeps-allowed : (a : Label) (t : ColumnType) (b : Label) → keeps_required a t b ≡ allowed (top_of (given a.required t)) b.required
unfolding keeps_required is_null_type given
keeps-allowed a (cleaf l) b = placed-kept (a.required && not (is_null (leaf_of l))) b.required
keeps-allowed a (cstruct cs) b = nested_kept a.required b.required
keeps-allowed a (clist l t) b = nested_kept a.required b.required
keeps-allowed a (carray w l t) b = nested_kept a.required b.required

-- "Older columns count as optional": an optional target column takes any
pub keeps-optional : (a : Label) (t : ColumnType) (b : Label) → b.required ≡ false → keeps_required a t b ≡ true
unfolding keeps_required
keeps-optional a t b e = rw e

-- ---- 54

and_right : (a : Bool) → (a && true) ≡ a
and_right true = refl
and_right false = refl

none-meet : (cs : Columns) → meets_all nnil cs ≡ true
unfolding meets allowed
none-meet cs = nowhere-meets (cstruct cs) false

-- null, of any type: "below a null there is no value"
pub fills_null : (l : Label) (u : ColumnType) → fills_required l u vnull ≡ not l.required
unfolding fills_required meets allowed of_value nullness_at
fills_null l (cleaf t) = refl
fills_null l (cstruct cs) = rw (none-meet cs) (and_right (not l.required))
fills_null l (clist m t) = rw (nowhere-meets t m.required) (and_right (not l.required))
fills_null l (carray w m t) = rw (nowhere-meets t m.required) (and_right (not l.required))

-- a leaf that is not null
pub fills_leaf : (l : Label) (t : LeafType) (x : Value) → is_null_value x ≡ false → fills_required l (cleaf t) x ≡ true
unfolding fills_required meets allowed of_value
fills_leaf l t vnull e = true≠false refl e
fills_leaf l t (vnumber k n) e = refl
fills_leaf l t (vtext b) e = refl
fills_leaf l t voverflow e = refl
fills_leaf l t (vstruct xs) e = refl
fills_leaf l t (vlist xs) e = refl
fills_leaf l t (varray xs) e = refl

-- a struct that is not null: each field by its own mark
pub fills_struct : (l : Label) (cs : Columns) (xs : Values) → fills_required l (cstruct cs) (vstruct xs) ≡ meets_all (of_fields xs) cs
unfolding fills_required meets allowed of_value
fills_struct l cs xs = refl

pub fills_fields : (l : Label) (t : ColumnType) (cs : Columns) (x : Value) (xs : Values)
    → meets_all (of_fields (vcons x xs)) (ccons l t cs) ≡ (fills_required l t x && meets_all (of_fields xs) cs)
unfolding fills_required meets_all of_fields
fills_fields l t cs x xs = refl

-- no null of the default stands at a required place
pub fills_exact : (l : Label) (u : ColumnType) (x : Value) → Fits (dtype_of u) x → (fills_required l u x ≡ true) ↔ Filled required_of l.required u x
unfolding fills_required
fills_exact l u x f = constant_exact l.required u x f
