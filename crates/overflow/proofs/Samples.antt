-- S5 and S6 of document 01, as what `top_overflows` asks and promises: that it can be had, and what it comes to. Computed.
use mathlib.Core.Path.{◌≡◌, refl}
use mathlib.Core.Bool.{Bool, true, false, not}
use mathlib.Core.List.{[], ◌∷◌}
use native.Mathlib.Omega.{arith}
use Rattle.layout.specs.Bytes.{Bytes, same_bytes}
use Rattle.layout.specs.Parser.{Res, ok, next, choose, byte, chunk, u16}
use Rattle.layout.specs.Tree.{datetime, leaf, Columns, cleaf, cnil, ccons, dtype_of, fields_of}
use Rattle.layout.specs.Layout.{text, unit, leaf_head, datetime_head, kind_of, kind, field_id, field_mark, label_rest, label, repeats_any, columns, body, type}
use Rattle.layout.specs.code.Stands.{TypeAt}
use Rattle.layout.specs.declared.leaf.TimeUnit.{TimeUnit}
use Rattle.layout.specs.declared.leaf.TimeUnit.TheVariants.{Nanoseconds, Milliseconds}
use Rattle.layout.specs.declared.leaf.Leaf.TheVariants.{Datetime}
use Rattle.layout.specs.declared.columns.Siblings.TheVariants.{Free}
use Rattle.layout.specs.declared.edition.Edition.TheVariants.{One}
use Rattle.forms.specs.Form.{u16_bytes, text_bytes, carried, leaf_form, kind_form, form}
use Rattle.forms.specs.Depth.{depth_of}
use Rattle.rules.specs.declared.outcome.CastOption.TheVariants.{Strict}
use Rattle.rules.specs.Zones.{zones_of, read_zone, is_utc}
use Rattle.rules.specs.Params.{params_of}
use Rattle.rules.specs.Chain.{chain}
use Rattle.rules.specs.Pairs.{pair_rule, cast_passes}
use Rattle.numeric.specs.Integers.{signed, pattern}
use Rattle.numeric.specs.Times.{finer}
use Rattle.values.specs.Value.{Values, vnumber, vnil, vcons}
use Rattle.values.specs.Reading.{presence, nullable, little, content_by, leaf_content, content, values}
use Rattle.plan.specs.Result.{◌>>=◌, demand}
use Rattle.plan.specs.Selector.{Selector, position, cast}
use Rattle.plan.specs.Read.{data_type, cast_option, known_option, position_rest, cast_rest, selector_rest, selector, deepest_selector}
use Rattle.plan.specs.Check.{column, column_at, cast_fits_of, within_limits, resulting, check_cast, type_of}
use Rattle.plan.specs.Convert.{counted, rescaled, convert_as, convert}
use Rattle.plan.specs.Run.{value_at, cast_leaf, cast_value, eval, clean}
use Rattle.nodes.specs.code.Raw.{RowAt}
use Rattle.overflow.specs.code.Overflows.{TopAt}

-- the column `t`, a date-time without a zone, of milliseconds and of nanoseconds
abbrev lay : Bytes
lay = 1 ∷ 0x74 ∷ 14 ∷ 2 ∷ 0 ∷ []

abbrev target : Bytes
target = 1 ∷ 0x74 ∷ 14 ∷ 0 ∷ 0 ∷ []

-- position 0, cast strictly to nanoseconds
abbrev plan : Bytes
plan = 2 ∷ 0 ∷ 0 ∷ 0 ∷ 14 ∷ 0 ∷ 0 ∷ 1 ∷ []

-- 9,223,372,036,854 and 9,223,372,036,855
abbrev s5 : Bytes
s5 = 1 ∷ 246 ∷ 90 ∷ 208 ∷ 123 ∷ 99 ∷ 8 ∷ 0 ∷ 0 ∷ []

abbrev s6 : Bytes
s6 = 1 ∷ 247 ∷ 90 ∷ 208 ∷ 123 ∷ 99 ∷ 8 ∷ 0 ∷ 0 ∷ []

abbrev one : TimeUnit → Columns
one u = ccons (record { name = 0x74 ∷ []; id = record { 0 = 0 }; required = false }) (cleaf (datetime u [])) cnil

abbrev strict : Selector
strict = cast (position (record { 0 = 0 })) (leaf (datetime Nanoseconds [])) Strict

-- opens every definition that the readings go through
columns_computed : Bytes → Res Columns
unfolding type kind kind_of leaf_head datetime_head unit body columns label label_rest text field_id field_mark repeats_any byte chunk u16 next choose
columns_computed s = columns One Free (type One Free 16) 1 [] s 0

values_computed : Bytes → Res Values
unfolding fields_of dtype_of presence nullable little content_by leaf_content content byte chunk next choose
values_computed s = values (fields_of (one Milliseconds)) s 0

plan_computed : Bytes → Res Selector
unfolding columns_computed dtype_of selector selector_rest position_rest cast_rest data_type cast_option known_option
plan_computed s = selector deepest_selector s 0

row : (rec : Bytes) (vs : Values) → values (fields_of (one Milliseconds)) rec 0 ≡ ok vs 9 → RowAt One lay 1 0 rec 0
unfolding columns_computed
row rec vs e = record { columns = record { columns = one Milliseconds; end = 5; reads = refl }; values = record { values = vs; end = 9; reads = e } }

s5_row : RowAt One lay 1 0 s5 0
unfolding values_computed
s5_row = row s5 (vcons (vnumber (Datetime Milliseconds) 9223372036854) vnil) refl

s6_row : RowAt One lay 1 0 s6 0
unfolding values_computed
s6_row = row s6 (vcons (vnumber (Datetime Milliseconds) 9223372036855) vnil) refl

targeted : TypeAt One 16 target 2
unfolding columns_computed
targeted = record { tree = cleaf (datetime Nanoseconds []); end = 5; reads = refl }

-- the selector passes the check
planned : TopAt plan 0 (fields_of (one Milliseconds))
unfolding plan_computed type_of column_at ◌>>=◌ check_cast cast_fits_of cast_passes pair_rule chain params_of zones_of read_zone is_utc same_bytes
    demand resulting within_limits depth_of form leaf_form carried kind_form text_bytes u16_bytes fields_of dtype_of
planned = record {
  here = record { tree = strict; end = 8; reads = refl };
  ends = omega arith;
  small = omega arith;
  column = column (0x74 ∷ []) (leaf (datetime Nanoseconds []));
  passes = refl;
}

same_type_lem : planned.column.type ≡ dtype_of targeted.tree
unfolding planned targeted dtype_of
same_type_lem = refl

-- opens every definition that an answer goes through
answer : Values → Selector → Bool
unfolding eval value_at cast_value cast_leaf convert convert_as rescaled counted finer signed pattern clean
answer ρ s = not (clean (eval ρ s))

s5_fits : not (clean (eval s5_row.values.values planned.here.tree)) ≡ false
unfolding s5_row row planned answer
s5_fits = refl

s6_overflows : not (clean (eval s6_row.values.values planned.here.tree)) ≡ true
unfolding s6_row row planned answer
s6_overflows = refl
