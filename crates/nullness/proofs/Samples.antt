-- The check's 55, computed: a sample for each sentence of document 02, L5, and for its corners. Assumes nothing.
use mathlib.Core.Path.{◌≡◌, refl}
use mathlib.Core.Bool.{true, false}
use mathlib.Core.List.{[], ◌∷◌}
use Rattle.layout.specs.Tree.{null, integer, LeafType, Label, ColumnType, cleaf, cstruct, clist, carray, Columns, cnil, ccons, leaf, struct, list, fnil, fcons}
use Rattle.layout.specs.Tree.{dtype_of, fields_of}
use Rattle.layout.specs.declared.leaf.Leaf.{Leaf}
use Rattle.numeric.specs.declared.integers.Integer.TheVariants.{Int8, Int16}
use Rattle.forms.specs.Form.{u32_bytes}
use Rattle.rules.specs.declared.outcome.CastOption.TheVariants.{NonStrict, Overflowing}
use Rattle.values.specs.Value.{Value, vnull, vnumber, vstruct, vlist, varray, Values, vnil, vcons}
use Rattle.plan.specs.Result.{Answer, accepted, refused_at, demand, placed, answered}
use Rattle.plan.specs.Selector.{Selector, position, constant, cast, rename, struct_mapping, list_mapping, array_mapping, snil, scons}
use Rattle.plan.specs.Check.{list_of, array_of, check_list, check_array}
use Rattle.plan.proofs.Samples.{checked}
use Rattle.plan.specs.Nullness.{nullness_at, join_place, join, join_all, of_value, of_fields, of_elements, nullness_of, nullnesses_of}
use Rattle.plan.specs.Marks.{allowed, given, givens, meets, meets_all, check_marked}

abbrev int8 : LeafType
int8 = integer Int8

abbrev int16 : LeafType
int16 = integer Int16

abbrev req : Label
req = record { name = 97 ∷ []; id = record { 0 = 1 }; required = true }

abbrev opt : Label
opt = record { name = 97 ∷ []; id = record { 0 = 0 }; required = false }

abbrev one : Label → ColumnType → Columns
one l t = ccons l t cnil

abbrev first : Selector
first = position (record { 0 = 0 })

abbrev five : Value
five = vnumber (Leaf.Integer Int8) 5

abbrev pair : Value → Value → Values
pair v w = vcons v (vcons w vnil)

abbrev byte : ColumnType
byte = cleaf int8

-- a constant that has the target's name and type
abbrev constant_of : ColumnType → Value → Selector
constant_of u v = constant (97 ∷ []) (dtype_of u) v

-- one selector between one column and another
unfoldable from : Label → ColumnType → Label → ColumnType → Selector → Answer (Unit {0})
unfolding check_marked checked u32_bytes list_of array_of check_list check_array dtype_of fields_of nullness_of nullnesses_of nullness_at of_value of_fields
    of_elements join_all join join_place given givens meets meets_all allowed answered placed demand
from a t b u s = check_marked (one a t) (one b u) (scons s snil)

-- a selector over no columns
unfoldable alone : Label → ColumnType → Selector → Answer (Unit {0})
unfolding from
alone b u s = check_marked cnil (one b u) (scons s snil)

-- ---- positions, casts, renames

optional-to-required : from opt byte req byte first ≡ refused_at 55 0
unfolding from
optional-to-required = refl

required-to-required : from req byte req byte first ≡ accepted tt
unfolding from
required-to-required = refl

required-to-optional : from req byte opt byte first ≡ accepted tt
unfolding from
required-to-optional = refl

cast-keeps : from req byte req (cleaf int16) (rename (cast first (leaf int16) Overflowing) (97 ∷ [])) ≡ accepted tt
unfolding from
cast-keeps = refl

cast-keeps-optional : from opt byte req (cleaf int16) (cast first (leaf int16) Overflowing) ≡ refused_at 55 0
unfolding from
cast-keeps-optional = refl

-- 33 comes first
after_33 : from opt byte req (cleaf int16) first ≡ refused_at 33 0
unfolding from
after_33 = refl

-- a mark inside
inside-struct : from req (cstruct (one opt byte)) opt (cstruct (one req byte)) first ≡ refused_at 55 0
unfolding from
inside-struct = refl

inside-list : from req (clist opt byte) opt (clist req byte) first ≡ refused_at 55 0
unfolding from
inside-list = refl

inside-array : from opt (carray 2 req byte) opt (carray 2 req byte) first ≡ accepted tt
unfolding from
inside-array = refl

-- ---- the null type

-- a null-type column counts as optional, though marked
null-required : from req (cleaf null) req byte (cast first (leaf int8) NonStrict) ≡ refused_at 55 0
unfolding from
null-required = refl

null_target : from req (cleaf null) req (cleaf null) first ≡ refused_at 55 0
unfolding from
null_target = refl

-- a cast of null has no value inside
null-inside : from opt (cleaf null) opt (cstruct (one req byte)) (cast first (struct (fcons (97 ∷ []) (leaf int8) fnil)) NonStrict) ≡ accepted tt
unfolding from
null-inside = refl

null-mapped : from opt (cleaf null) opt (clist req (cleaf int16)) (list_mapping (cast first (list (leaf int8)) NonStrict)
    (cast first (leaf int16) Overflowing)) ≡ accepted tt
unfolding from
null-mapped = refl

-- ---- constants

constant-null : alone req byte (constant_of byte vnull) ≡ refused_at 55 0
unfolding alone
constant-null = refl

constant-value : alone req byte (constant_of byte five) ≡ accepted tt
unfolding alone
constant-value = refl

-- an empty list has no element
constant-empty : alone req (clist req byte) (constant_of (clist req byte) (vlist vnil)) ≡ accepted tt
unfolding alone
constant-empty = refl

-- one null among the elements
constant-mixed : alone req (clist req byte) (constant_of (clist req byte) (vlist (pair five vnull))) ≡ refused_at 55 0
unfolding alone
constant-mixed = refl

constant_full : alone req (clist req byte) (constant_of (clist req byte) (vlist (pair five five))) ≡ accepted tt
unfolding alone
constant_full = refl

-- a null struct says nothing of its fields; the other element has the field
constant_structs : alone req (clist opt (cstruct (one req byte))) (constant_of (clist opt (cstruct (one req byte)))
    (vlist (pair vnull (vstruct (vcons five vnil))))) ≡ accepted tt
unfolding alone
constant_structs = refl

constant-field : alone req (clist opt (cstruct (one req byte))) (constant_of (clist opt (cstruct (one req byte)))
    (vlist (pair (vstruct (vcons vnull vnil)) (vstruct (vcons five vnil))))) ≡ refused_at 55 0
unfolding alone
constant-field = refl

-- the elements of all lists of a list are one place
constant_nested : alone req (clist req (clist req byte)) (constant_of (clist req (clist req byte))
    (vlist (pair (vlist vnil) (vlist (vcons vnull vnil))))) ≡ refused_at 55 0
unfolding alone
constant_nested = refl

-- ---- a mapping over a constant that is null, or has no element

abbrev null_struct : Selector
null_struct = constant_of (cstruct (one opt byte)) vnull

-- "run or not"
null-mapping-constant : alone opt (cstruct (one req byte)) (struct_mapping null_struct (scons (constant_of byte vnull) snil)) ≡ refused_at 55 0
unfolding alone
null-mapping-constant = refl

null-mapping-position : alone opt (cstruct (one req byte)) (struct_mapping null_struct (scons first snil)) ≡ accepted tt
unfolding alone
null-mapping-position = refl

-- and so below a place that has no value
null-mapping-deep : alone opt (cstruct (one req (cstruct (one req byte)))) (struct_mapping
    (constant_of (cstruct (one opt (cstruct (one opt byte)))) vnull) (scons (struct_mapping first (scons (constant_of byte vnull) snil)) snil))
    ≡ refused_at 55 0
unfolding alone
null-mapping-deep = refl

null-mapping-deep-position : alone opt (cstruct (one req (cstruct (one req byte))))
    (struct_mapping (constant_of (cstruct (one opt (cstruct (one opt byte)))) vnull) (scons (struct_mapping first (scons first snil)) snil))
    ≡ accepted tt
unfolding alone
null-mapping-deep-position = refl

-- "a list mapping over the constant `[]` of list<null> with a cast of position 0 to int8 inside passes against a
-- required int8 element"
empty-null-list : alone req (clist req byte) (list_mapping (constant_of (clist opt (cleaf null)) (vlist vnil)) (cast first (leaf int8) NonStrict)) ≡ accepted tt
unfolding alone
empty-null-list = refl

filled-null-list : alone req (clist req byte) (list_mapping (constant_of (clist opt (cleaf null)) (vlist (vcons vnull vnil)))
    (cast first (leaf int8) NonStrict)) ≡ refused_at 55 0
unfolding alone
filled-null-list = refl

empty-list-constant : alone req (clist req byte) (list_mapping (constant_of (clist opt (cleaf null)) (vlist vnil)) (constant_of byte vnull)) ≡ refused_at 55 0
unfolding alone
empty-list-constant = refl

-- an array of no elements
empty-array : alone req (carray 0 req byte) (array_mapping (constant_of (carray 0 opt (cleaf null)) (varray vnil)) (cast first (leaf int8) NonStrict)) ≡
    accepted tt
unfolding alone
empty-array = refl
