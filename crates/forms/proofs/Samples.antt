-- Some types, their forms and what comparing them gives: computed.
use mathlib.Core.Path.{◌≡◌, refl}
use mathlib.Core.List.{[], ◌∷◌}
use mathlib.Core.Bool.{Bool, false}
use Rattle.layout.specs.Bytes.{Bytes, same_bytes}
use Rattle.layout.specs.Tree.{boolean, string, datetime, DataType, leaf, struct, list, array, fnil, fcons, count_fields, integer}
use Rattle.layout.specs.declared.leaf.TimeUnit.TheVariants.{Microseconds, Milliseconds}
use Rattle.forms.specs.Form.{u16_bytes, u32_bytes, text_bytes, carried, leaf_form, kind_form, form, form_fields}
use Rattle.forms.specs.Same.{equal_types}
use Rattle.forms.specs.code.Compare.{same_leaf, same_dtype, same_fields_of}
use Rattle.numeric.specs.declared.integers.Integer.TheVariants.{Int32}

-- open every definition that a sample computes through
written : DataType → Bytes
unfolding form form_fields kind_form leaf_form carried text_bytes u16_bytes u32_bytes count_fields
written t = form t

compared : DataType → DataType → Bool
unfolding same_dtype same_fields_of same_leaf same_bytes leaf_form carried text_bytes equal_types
compared t u = same_dtype t u

-- the columns of S1's target, as a struct: `t` int32 and `s` string
fields_of-two : form (struct (fcons (0x74 ∷ []) (leaf (integer Int32)) (fcons (0x73 ∷ []) (leaf string) fnil))) ≡ 18 ∷ 2 ∷ 0 ∷ 1 ∷ 0x74 ∷ 4 ∷ 1 ∷ 0x73 ∷ 15 ∷ []
unfolding written
fields_of-two = refl

-- an array of 70,000 lists of µs with zone UTC: 70,000 is 0x11170
nested : form (array 70000 (list (leaf (datetime Microseconds (0x55 ∷ 0x54 ∷ 0x43 ∷ []))))) ≡ 20 ∷ 0x70 ∷ 0x11 ∷ 1 ∷ 0 ∷ 19 ∷ 14 ∷ 1 ∷ 3 ∷ 0x55 ∷ 0x54 ∷
    0x43 ∷ []
unfolding written
nested = refl

-- S4: µs without a zone is not µs UTC
s4_differs : same_dtype (leaf (datetime Microseconds [])) (leaf (datetime Microseconds (0x55 ∷ 0x54 ∷ 0x43 ∷ []))) ≡ false
unfolding compared
s4_differs = refl

units_differ : same_dtype (leaf (datetime Microseconds [])) (leaf (datetime Milliseconds [])) ≡ false
unfolding compared
units_differ = refl

-- S12: array widths 2 and 3
s12_differs : same_dtype (array 2 (leaf boolean)) (array 3 (leaf boolean)) ≡ false
unfolding compared
s12_differs = refl
