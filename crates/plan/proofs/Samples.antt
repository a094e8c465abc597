-- Samples of document 01 on plans, computed.
use Prim.Native.Nat.{ℕ}
use mathlib.Core.Path.{◌≡◌, refl}
use mathlib.Core.List.{[], ◌∷◌, ◌++◌}
use mathlib.Core.Bool.{Bool, true, false}
use lib.ListN.{replicate}
use lib.Dec.{lit≤}
use Rattle.layout.specs.Bytes.{Bytes, same_bytes}
use Rattle.layout.specs.Parser.{Res, refuse, ok, next, choose, byte, chunk, u16}
use Rattle.layout.specs.Tree.{null, string, datetime, DataType, leaf, struct, Fields, fnil, fcons, dtype_of, count_fields, integer}
use Rattle.layout.specs.Layout.{text, leaf_head, kind_of, kind, body, type, ended}
use Rattle.layout.specs.declared.leaf.TimeUnit.TheVariants.{Nanoseconds, Microseconds, Milliseconds}
use Rattle.layout.specs.declared.leaf.Leaf.TheVariants.{Datetime}
use Rattle.layout.specs.declared.leaf.Leaf.{Leaf}
use Rattle.forms.specs.Form.{u16_bytes, text_bytes, carried, leaf_form, kind_form, form, form_fields}
use Rattle.forms.specs.Depth.{depth_of, depth_of_fields}
use Rattle.forms.specs.Same.{equal_types, equal_fields}
use Rattle.rules.specs.declared.outcome.CastOption.TheVariants.{NonStrict, Strict, Overflowing}
use Rattle.rules.specs.Zones.{zones_of, read_zone, is_utc}
use Rattle.rules.specs.Params.{params_of}
use Rattle.rules.specs.Chain.{chain}
use Rattle.rules.specs.Pairs.{pair_rule, cast_passes}
use Rattle.numeric.specs.Integers.{signed, unsigned, number_of, pattern, widened}
use Rattle.numeric.specs.Rounding.{rounded}
use Rattle.numeric.specs.Floats.{from_integer, integer_to_float}
use Rattle.numeric.specs.Times.{finer, coarser}
use Rattle.values.specs.Value.{vnull, vnumber, vstruct, Values, vnil, vcons}
use Rattle.values.specs.Reading.{struct_content, presence, nullable, little, content_by, leaf_content, content, values, value}
use Rattle.values.specs.Record.{renumber, record_from, record_of, short_enough, ended as recordEnded}
use Rattle.store.specs.LittleEndian.{little_bytes}
use Rattle.values.specs.Encode.{encode_value, encode_values}
use Rattle.plan.specs.Result.{Answer, accepted, refused_at, ◌>>=◌, demand, placed, answered}
use Rattle.plan.specs.Selector.{Selector, position, constant, cast, rename, struct_mapping, Selectors, snil, scons, count_selectors}
use Rattle.plan.specs.Encode.{encode_selector, encode_selectors, encode_plan}
use Rattle.plan.specs.Read.{data_type, cast_option, known_option, selectors, position_rest, constant_rest, cast_rest, rename_rest, struct_rest, list_rest}
use Rattle.plan.specs.Read.{array_rest, selector_rest, selector, plan_sized, plan_version, plan_from, plan_counted, plan}
use Rattle.plan.specs.Check.{column_at, struct_of, cast_fits_of, from_null_of, within_limits, resulting, check_cast, check_rename, check_struct, type_of, types_of}
use Rattle.plan.specs.Check.{top_types, against, check}
use Rattle.plan.specs.Convert.{counted, rescaled, convert_as, convert}
use Rattle.plan.specs.Reach.{values_in, value_in, s_here, o_cast, ReachesOverflow}
use Rattle.plan.specs.Run.{value_at, cast_leaf, cast_value, on_struct, eval, evals, clean, clean_all_of, spacious, written, run}
use Rattle.numeric.specs.declared.integers.Integer.TheVariants.{Int16, Int32, Int64, UInt16, UInt32}
use Rattle.numeric.specs.declared.floats.Format.TheVariants.{Binary16, Binary32}

abbrev t : Bytes
t = 116 ∷ []

abbrev s : Bytes
s = 115 ∷ []

abbrev at : ℕ → Selector
at k = position (record { 0 = k })

abbrev one : DataType → Fields
one u = fcons t u fnil

-- S1
abbrev s1 : Selectors
s1 = scons (cast (at 0) (leaf (integer Int32)) Overflowing) (scons (constant s (leaf string) vnull) snil)

abbrev s1_bytes : Bytes
s1_bytes = 0x50 ∷ 0x4C ∷ 0x4E ∷ 1 ∷ 0 ∷ 2 ∷ 0 ∷ 2 ∷ 0 ∷ 0 ∷ 0 ∷ 4 ∷ 2 ∷ 1 ∷ 1 ∷ 0x73 ∷ 0x0F ∷ 0 ∷ []

s1_encoded : encode_plan s1 ≡ s1_bytes
unfolding encode_plan encode_selector encode_selectors count_selectors u16_bytes text_bytes form leaf_form carried encode_value
s1_encoded = refl

-- opens every definition that the reading of a plan goes through
unfoldable pub read : Bytes → Res Selectors
unfolding plan renumber plan_from plan_counted plan_sized plan_version same_bytes next choose byte chunk u16 selectors selector selector_rest position_rest
    constant_rest cast_rest rename_rest struct_rest list_rest array_rest data_type cast_option known_option type kind kind_of leaf_head body dtype_of text value
    nullable presence content ended
read b = plan b

s1_read : plan s1_bytes ≡ ok s1 18
unfolding read
s1_read = refl

-- bytes left over
s1_left : plan (s1_bytes ++ (0 ∷ [])) ≡ refuse 30
unfolding read
s1_left = refl

-- opens every definition that a check goes through
unfoldable pub checked : Fields → Fields → Selectors → Answer (Unit {0})
unfolding check top_types type_of types_of column_at ◌>>=◌ check_cast check_rename check_struct struct_of cast_fits_of from_null_of cast_passes pair_rule chain params_of
    zones_of read_zone is_utc same_bytes demand resulting within_limits depth_of depth_of_fields count_fields form form_fields leaf_form carried kind_form text_bytes
    u16_bytes placed answered against equal_fields equal_types
checked Γ Δ ss = check Γ Δ ss

s1_checked : check (one (leaf (integer Int16))) (fcons t (leaf (integer Int32)) (fcons s (leaf string) fnil)) s1 ≡ accepted tt
unfolding checked
s1_checked = refl

-- S2, S3
s2 : check (one (leaf (integer UInt32))) (one (leaf (integer Int32))) (scons (cast (at 0) (leaf (integer Int32)) Overflowing) snil) ≡ refused_at 32 0
unfolding checked
s2 = refl

s3 : check (one (leaf (integer UInt32))) (one (leaf (integer Int64))) (scons (cast (at 0) (leaf (integer Int64)) Overflowing) snil) ≡ accepted tt
unfolding checked
s3 = refl

-- S4: no zone and UTC are no equal types, and the cast between them is NonStrict
abbrev utc : DataType
utc = leaf (datetime Microseconds (85 ∷ 84 ∷ 67 ∷ []))

abbrev local : DataType
local = leaf (datetime Microseconds [])

s4 : check (one local) (one utc) (scons (cast (at 0) utc NonStrict) snil) ≡ accepted tt
unfolding checked
s4 = refl

s4_untouched : check (one local) (one utc) (scons (at 0) snil) ≡ refused_at 33 0
unfolding checked
s4_untouched = refl

-- opens every definition that a run goes through
unfoldable pub ran : Values → Selectors → ℕ → Answer Bytes
unfolding run written evals eval value_at cast_value cast_leaf convert convert_as rescaled counted widened number_of signed unsigned pattern finer coarser
    on_struct clean clean_all_of demand spacious encode_value encode_values little_bytes placed
ran ρ ss room = run ρ ss room

-- and the reading of a record
unfoldable pub recorded : Fields → Bytes → Res Values
unfolding record_of record_from short_enough renumber values struct_content content leaf_content content_by nullable presence byte chunk little next choose
    recordEnded
recorded Γ b = record_of Γ b

s1_record : record_of (one (leaf (integer Int16))) (1 ∷ 0xFE ∷ 0xFF ∷ []) ≡ ok (vcons (vnumber (Leaf.Integer Int16) 65534) vnil) 3
unfolding recorded
s1_record = refl

s1_ran : run (vcons (vnumber (Leaf.Integer Int16) 65534) vnil) s1 6 ≡ accepted (1 ∷ 0xFE ∷ 0xFF ∷ 0xFF ∷ 0xFF ∷ 0 ∷ [])
unfolding ran
s1_ran = refl

s1_short : run (vcons (vnumber (Leaf.Integer Int16) 65534) vnil) s1 5 ≡ refused_at 45 0
unfolding ran
s1_short = refl

-- S5, S6, S7
abbrev casting : DataType → Selectors
casting u = scons (cast (at 0) u Strict) snil

s6 : run (vcons (vnumber (Datetime Milliseconds) 9223372036855) vnil) (casting (leaf (datetime Nanoseconds []))) 100 ≡ refused_at 44 0
unfolding ran
s6 = refl

-- the cast is reached, and its product is beyond 64 bits
s6_reached : ReachesOverflow (vcons (vnumber (Datetime Milliseconds) 9223372036855) vnil) (casting (leaf (datetime Nanoseconds [])))
unfolding ran value_in values_in
s6_reached = record {
  column = 0;
  selector = cast (at 0) (leaf (datetime Nanoseconds [])) Strict;
  selects = s_here;
  path = [];
  overflows = o_cast {u = Milliseconds} {n = 9223372036855} {f = 1000000} refl refl (record { beyond = lit≤ tt });
}

s5 : evals (vcons (vnumber (Datetime Milliseconds) 9223372036854) vnil) (casting (leaf (datetime Nanoseconds []))) ≡ vcons
    (vnumber (Datetime Nanoseconds) 9223372036854000000) vnil
unfolding ran
s5 = refl

-- S7: -1 ns to µs
s7 : evals (vcons (vnumber (Datetime Nanoseconds) 0xffff_ffff_ffff_ffff) vnil) (casting (leaf (datetime Microseconds []))) ≡ vcons
    (vnumber (Datetime Microseconds) 0xffff_ffff_ffff_ffff) vnil
unfolding ran
s7 = refl

-- S8 to S10: int32 to float32, uint16 to float16
s8 : convert (Leaf.Integer Int32) (Leaf.Float Binary32) 16_777_217 ≡ vnumber (Leaf.Float Binary32) 0x4b80_0000
unfolding ran integer_to_float from_integer rounded
s8 = refl

s9 : convert (Leaf.Integer UInt16) (Leaf.Float Binary16) 65_519 ≡ vnumber (Leaf.Float Binary16) 0x7bff
unfolding ran integer_to_float from_integer rounded
s9 = refl

s10 : convert (Leaf.Integer UInt16) (Leaf.Float Binary16) 65_520 ≡ vnumber (Leaf.Float Binary16) 0x7c00
unfolding ran integer_to_float from_integer rounded
s10 = refl

-- S11: an overflow in a field that an outer mapping drops
abbrev s11 : Selectors
s11 = scons (struct_mapping (struct_mapping (at 0) (scons (cast (at 0) (leaf (datetime Nanoseconds [])) Strict) (scons (at 0) snil))) (scons (at 1) snil)) snil

s11_ran : evals (vcons (vstruct (vcons (vnumber (Datetime Milliseconds) 9223372036855) vnil)) vnil) s11 ≡ vcons
    (vstruct (vcons (vnumber (Datetime Milliseconds) 9223372036855) vnil)) vnil
unfolding ran
s11_ran = refl

abbrev clock : DataType
clock = leaf (datetime Milliseconds [])

s11_checked : check (one (struct (one clock))) (one (struct (one clock))) s11 ≡ accepted tt
unfolding checked
s11_checked = refl

-- a wrong position: the place is the number of its top selector
missing : check (one clock) (one clock) (scons (at 0) (scons (rename (at 1) s) snil)) ≡ refused_at 31 1
unfolding checked
missing = refl

-- null to null never passes, null to another type does
null-to-null : check (one (leaf null)) (one (leaf null)) (scons (cast (at 0) (leaf null) NonStrict) snil) ≡ refused_at 32 0
unfolding checked
null-to-null = refl

null-to-struct : check (one (leaf null)) (one (struct (one clock))) (scons (cast (at 0) (struct (one clock)) NonStrict) snil) ≡ accepted tt
unfolding checked
null-to-struct = refl

-- 64 levels are read, 65 are not: renames around a position
abbrev nested : ℕ → Bytes
nested n = 0x50 ∷ 0x4C ∷ 0x4E ∷ 1 ∷ 0 ∷ 1 ∷ 0 ∷ (replicate n 3 ++ (0 ∷ 0 ∷ 0 ∷ replicate n 0))

abbrev is_read : Res Selectors → Bool
is_read (refuse n) = false
is_read (ok ss at) = true

level_64 : is_read (plan (nested 63)) ≡ true
unfolding read
level_64 = refl

level_65 : plan (nested 64) ≡ refuse 30
unfolding read
level_65 = refl
