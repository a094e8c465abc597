-- What `emit_top` asks can be had: the first column of sample S1 of document 01. Computed.
use Prim.Native.Nat.{◌≤◌}
use mathlib.Core.Path.{◌≡◌, refl}
use mathlib.Core.List.{[], ◌∷◌}
use mathlib.Core.Bool.{true, false}
use native.Mathlib.Omega.{arith}
use Rattle.layout.specs.Bytes.{Bytes}
use Rattle.layout.specs.Parser.{ok, next, choose, byte, chunk, u16}
use Rattle.layout.specs.Tree.{leaf, Columns, cleaf, cnil, ccons, dtype_of, fields_of, integer}
use Rattle.layout.specs.Layout.{text, leaf_head, kind_of, kind, field_id, field_mark, label_rest, label, repeats_any, columns, body, type, deepest}
use Rattle.layout.specs.declared.leaf.Leaf.{Leaf}
use Rattle.layout.specs.declared.edition.Edition.TheVariants.{One}
use Rattle.layout.specs.declared.columns.Siblings.TheVariants.{Free}
use Rattle.store.specs.LittleEndian.{little_bytes}
use Rattle.rules.specs.declared.outcome.CastOption.TheVariants.{Overflowing}
use Rattle.numeric.specs.Integers.{signed, number_of, pattern, widened}
use Rattle.values.specs.Value.{vnumber, Values, vnil, vcons}
use Rattle.values.specs.Reading.{presence, nullable, little, content_by, leaf_content, content, values}
use Rattle.values.specs.Encode.{encode_value}
use Rattle.plan.specs.Selector.{position, cast, Selector}
use Rattle.plan.specs.Read.{data_type, cast_option, known_option, position_rest, cast_rest, selector_rest, selector, deepest_selector}
use Rattle.plan.specs.Convert.{convert_as, convert}
use Rattle.plan.specs.Run.{value_at, cast_leaf, cast_value, eval, clean}
use Rattle.walk.specs.code.Values.{given}
use Rattle.output.specs.code.Answers.{EmitTopAt}
use Rattle.output.specs.code.Output.{levels}
use Rattle.numeric.specs.declared.integers.Integer.TheVariants.{Int16, Int32}

abbrev lay : Bytes
lay = 0x4C ∷ 0x41 ∷ 0x59 ∷ 1 ∷ 0 ∷ 1 ∷ 0 ∷ 1 ∷ 0x74 ∷ 3 ∷ []

abbrev plan : Bytes
plan = 0x50 ∷ 0x4C ∷ 0x4E ∷ 1 ∷ 0 ∷ 2 ∷ 0 ∷ 2 ∷ 0 ∷ 0 ∷ 0 ∷ 4 ∷ 2 ∷ 1 ∷ 1 ∷ 0x73 ∷ 0x0F ∷ 0 ∷ []

abbrev rec : Bytes
rec = 1 ∷ 0xFE ∷ 0xFF ∷ []

abbrev incoming : Columns
incoming = ccons (record { name = 0x74 ∷ []; id = record { 0 = 0 }; required = false }) (cleaf (integer Int16)) cnil

abbrev row : Values
row = vcons (vnumber (Leaf.Integer Int16) 65534) vnil

abbrev first : Selector
first = cast (position (record { 0 = 0 })) (leaf (integer Int32)) Overflowing

columns-read : columns One Free (type One Free deepest) 1 [] lay 7 ≡ ok incoming 10
unfolding columns label label_rest text field_id field_mark repeats_any type kind kind_of leaf_head body byte chunk next choose
columns-read = refl

values-read : values (fields_of incoming) rec 0 ≡ ok row 3
unfolding values fields_of dtype_of nullable presence content leaf_content content_by little byte chunk next choose
values-read = refl

selector-read : selector deepest_selector plan 7 ≡ ok first 13
unfolding selector selector_rest position_rest cast_rest data_type cast_option known_option type kind kind_of leaf_head body dtype_of byte chunk u16 next choose
selector-read = refl

is-given : eval row first ≡ given row first
unfolding eval given
is-given = refl

is-clean : clean (eval row first) ≡ true
unfolding eval value_at cast_value cast_leaf convert convert_as clean
is-clean = refl

is-low : levels (eval row first) ≤ 64
unfolding eval value_at cast_value cast_leaf convert convert_as levels
is-low = omega arith

pub top-stands : EmitTopAt One lay 1 7 rec plan 7
top-stands = record {
  row = record { columns = record { columns = incoming; end = 10; reads = columns-read }; values = record { values = row; end = 3; reads = values-read } };
  selector = record { tree = first; end = 13; reads = selector-read };
  same = is-given;
  clean = is-clean;
  low = is-low;
  short = omega arith;
  small = omega arith;
}

-- -2 in four bytes
pub top-gives : encode_value (eval row first) ≡ (1 ∷ 0xFE ∷ 0xFF ∷ 0xFF ∷ 0xFF ∷ [])
unfolding eval value_at cast_value cast_leaf convert convert_as widened number_of signed pattern encode_value little_bytes
top-gives = refl
