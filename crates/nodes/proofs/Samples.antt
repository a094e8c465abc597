-- What the functions ask can be had: a list of two elements, of which the second is null, in a struct of one field.
-- Computed.
use mathlib.Core.Path.{◌≡◌, refl}
use mathlib.Core.Bool.{false}
use mathlib.Core.List.{[], ◌∷◌}
use lib.ListN.{length}
use Rattle.layout.specs.Bytes.{Bytes}
use Rattle.layout.specs.Parser.{Res, ok, next, choose, byte, chunk, u16}
use Rattle.layout.specs.Tree.{Label, ColumnType, cleaf, cstruct, clist, cnil, ccons, leaf, dtype_of, integer}
use Rattle.layout.specs.Layout.{text, leaf_head, struct_head, kind_of, kind, field_id, field_mark, label_rest, label, element_label, repeats_any, columns, struct_type}
use Rattle.layout.specs.Layout.{list_type, body, type, deepest}
use Rattle.layout.specs.declared.leaf.Leaf.{Leaf}
use Rattle.layout.specs.declared.edition.Edition.TheVariants.{One}
use Rattle.layout.specs.declared.columns.Siblings.TheVariants.{Free}
use Rattle.values.specs.Value.{Value, vnull, vnumber, vstruct, vlist, vnil, vcons, count_values}
use Rattle.values.specs.Reading.{presence, nullable, little, content_by, leaf_content, times, list_content, struct_content, content, value}
use Rattle.forms.specs.Form.{u16_bytes, text_bytes, carried, leaf_form, kind_form, form}
use Rattle.forms.specs.Depth.{depth_of}
use Rattle.plan.specs.Check.{column_at}
use Rattle.plan.specs.Run.{value_at}
use Rattle.walk.specs.code.Types.{a_here, a_field, a_list_lem}
use Rattle.walk.specs.code.Values.{opened, value_node}
use Rattle.nodes.specs.code.Raw.{RawAt, parts_of}
use Rattle.nodes.specs.code.Typed.{LeadsAt}
use Rattle.nodes.specs.declared.raw.Parts.{Parts}
use Rattle.numeric.specs.declared.integers.Integer.TheVariants.{Int16}

-- a struct with the field `t`, a list of int16
abbrev lay : Bytes
lay = 18 ∷ 1 ∷ 0 ∷ 1 ∷ 0x74 ∷ 19 ∷ 3 ∷ []

-- present; present, two elements; 5; null
abbrev rec : Bytes
rec = 1 ∷ 1 ∷ 2 ∷ 0 ∷ 1 ∷ 5 ∷ 0 ∷ 0 ∷ []

abbrev named : Bytes → Label
named n = record { name = n; id = record { 0 = 0 }; required = false }

abbrev tree : ColumnType
tree = cstruct (ccons (named (0x74 ∷ [])) (clist (named []) (cleaf (integer Int16))) cnil)

-- opens every definition that a sample computes through
computed : Bytes → Res Value
unfolding type kind kind_of leaf_head struct_head body struct_type list_type columns label label_rest text field_id field_mark element_label repeats_any byte
    chunk u16 next choose dtype_of presence nullable little content_by leaf_content times list_content struct_content content value
computed s = value (dtype_of tree) s 0

type-read : type One Free deepest lay 0 ≡ ok tree 7
unfolding computed
type-read = refl

value_read : value (dtype_of tree) rec 0 ≡ ok (vstruct (vcons (vlist (vcons (vnumber (Leaf.Integer Int16) 5) (vcons vnull vnil))) vnil)) 8
unfolding computed
value_read = refl

-- what `value_at` and `parts_at` ask
pub raw-stands : RawAt One lay 0 rec 0
raw-stands = record { type = record { tree = tree; end = 7; reads = type-read }; value = record { tree = _; end = 8; reads = value_read } }

-- the first element, the null, one past the end, and a part of a leaf
first-element : value_node raw-stands.value.tree (0 ∷ 0 ∷ []) ≡ vnumber (Leaf.Integer Int16) 5
unfolding raw-stands value_node opened value_at
first-element = refl

null-element : value_node raw-stands.value.tree (0 ∷ 1 ∷ []) ≡ vnull
unfolding raw-stands value_node opened value_at
null-element = refl

past_the_end : value_node raw-stands.value.tree (0 ∷ 2 ∷ []) ≡ vnull
unfolding raw-stands value_node opened value_at
past_the_end = refl

in_a_leaf : value_node raw-stands.value.tree (0 ∷ 0 ∷ 0 ∷ []) ≡ vnull
unfolding raw-stands value_node opened value_at
in_a_leaf = refl

two-parts : parts_of (value_node raw-stands.value.tree (0 ∷ [])) ≡ Parts.Some 2
unfolding raw-stands value_node opened value_at parts_of count_values
two-parts = refl

-- what `type_at` asks: the element's number has no say
pub leads : LeadsAt One lay 0 (0 ∷ 9 ∷ []) (leaf (integer Int16))
unfolding dtype_of column_at
leads = record { type = record { tree = tree; end = 7; reads = type-read }; along = a_field refl (a_list_lem a_here) }

-- in version 1 the form is the bytes themselves
as_long : length (form (dtype_of tree)) ≡ length lay
unfolding dtype_of form kind_form u16_bytes text_bytes leaf_form carried
as_long = refl

three_levels : depth_of (dtype_of tree) ≡ 3
unfolding dtype_of depth_of
three_levels = refl
