-- Document 01's samples of builds, and others, computed from the definitions over bytes.
use Prim.Native.Nat.{ℕ}
use mathlib.Core.Path.{◌≡◌, refl}
use mathlib.Core.List.{List, [], ◌∷◌, ◌++◌}
use lib.ListN.{length}
use Rattle.layout.specs.Bytes.{Bytes, same_bytes}
use Rattle.layout.specs.Parser.{Res, refuse, ok, next, choose, byte, chunk, u16, u32}
use Rattle.layout.specs.Tree.{Layout, dtype_of, fields_of, count_columns, count_fields, integer}
use Rattle.layout.specs.Layout.{layout, layout_from, sized, edition, counted, ended, columns, label, label_rest, field_mark, required_mark, text, field_id, type}
use Rattle.layout.specs.Layout.{kind, kind_of, leaf_head, datetime_head, struct_head, array_head, unit, body, struct_type, list_type, array_type, element_label}
use Rattle.layout.specs.Layout.{repeats_any}
use Rattle.layout.specs.Find.{find_from}
use Rattle.layout.specs.declared.leaf.Leaf.{Leaf}
use Rattle.layout.specs.Layout.{unit_code}
use Rattle.forms.specs.Form.{u16_bytes, u32_bytes, text_bytes, carried, leaf_form, kind_form, form, form_fields}
use Rattle.forms.specs.Same.{equal_types}
use Rattle.rules.specs.declared.policy.Policy.{Policy}
use Rattle.rules.specs.Policies.{policy_of}
use Rattle.rules.specs.Zones.{zones_of, read_zone, is_utc}
use Rattle.rules.specs.Params.{params_of}
use Rattle.rules.specs.Chain.{chain}
use Rattle.rules.specs.Pairs.{pair_rule}
use Rattle.store.specs.LittleEndian.{little_bytes}
use Rattle.values.specs.Value.{vnull, vnumber, vnil, vcons}
use Rattle.values.specs.Encode.{encode_value, encode_values}
use Rattle.values.specs.Reading.{presence, nullable, flag, little, long_text, content_by, leaf_content, times, content, value}
use Rattle.plan.specs.Result.{Answer, accepted, refused_at, ◌>>=◌, demand, placed, answered}
use Rattle.plan.specs.Selector.{count_selectors}
use Rattle.plan.specs.Nullness.{nullness_at, of_value, of_fields, of_elements}
use Rattle.plan.specs.Marks.{allowed, meets, meets_all}
use Rattle.plan.specs.Encode.{encode_selector, encode_selectors, encode_plan}
use Rattle.values.specs.Record.{renumber}
use Rattle.defaults.specs.declared.read.Owner.{Owner}
use Rattle.defaults.specs.declared.read.TableVersion.TheVariants.{Shared}
use Rattle.defaults.specs.Table.{Given, initial, partition, OwnedEntry}
use Rattle.defaults.specs.Table.{counts_for, entries_of, same_kind_of, same_owner, repeats_any_entry, only_leaf, default_type, initial_entry, loaded_entry, partition_entry}
use Rattle.defaults.specs.Table.{entry_kind, given_of, table_number, entry, owner_of, owned_entry, entries, table_version, TableTree, counted_table, table_from, table}
use Rattle.defaults.specs.Lookup.{unless_null, of_source, given_to, first_entry_of, get_default_value}
use Rattle.matching.specs.Default.{leaf_default, with_field, struct_default, build_iceberg_default_value, defaults_of, missing_value}
use Rattle.matching.specs.Build.{leaf_part, struct_part, list_part, array_part, is_null_type, unless_null_type, renamed, same_element, distinct_names, distinct}
use Rattle.matching.specs.Build.{no_extra_of, extra_column_err, extra_columns, keeps_required, fills_required, missing, ruled, is_position, in_place_of, struct_selector}
use Rattle.matching.specs.Build.{list_selector, array_selector, sought, attach_transforms, attach_fields, build_column_selector, build_from, build}
use Rattle.plan.specs.Calls.{read_at_of}
use Rattle.matching.specs.Calls.{of_edition, both_layouts, room_for, written_plan, build_by_name, build_by_number}
use Rattle.numeric.specs.declared.integers.Integer.TheVariants.{Int8}

-- opens every definition that a sample computes through
unfoldable pub laid_out : Bytes → Res Layout
unfolding layout layout_from sized edition same_bytes counted ended columns label label_rest field_mark required_mark text byte chunk u16 u32 field_id type
    kind kind_of leaf_head datetime_head struct_head array_head unit body struct_type list_type array_type element_label repeats_any next choose
laid_out s = layout s

unfoldable pub tabled : Bytes → Res TableTree
unfolding laid_out table table_from counted_table table_version entries owned_entry owner_of entry table_number renumber entry_kind given_of partition_entry
    loaded_entry initial_entry default_type only_leaf repeats_any_entry same_kind_of same_owner counts_for presence nullable flag little long_text content_by
    leaf_content times content value
tabled s = table s

unfoldable pub built : Policy → ℕ → ℕ → Bytes → Bytes → Bytes → ℕ → Answer Bytes
unfolding tabled keeps_required fills_required allowed meets meets_all of_value of_fields of_elements nullness_at build_by_name build_by_number both_layouts read_at_of
    of_edition room_for written_plan build build_from build_column_selector attach_transforms attach_fields sought missing missing_value build_iceberg_default_value
    defaults_of struct_default with_field leaf_default entries_of get_default_value first_entry_of given_to of_source unless_null leaf_part struct_part list_part
    array_part is_null_type unless_null_type renamed same_element distinct_names distinct no_extra_of extra_column_err extra_columns ruled is_position in_place_of
    struct_selector list_selector array_selector find_from pair_rule chain params_of zones_of read_zone is_utc equal_types dtype_of fields_of count_columns
    count_fields count_selectors encode_plan encode_selector encode_selectors u16_bytes u32_bytes text_bytes leaf_form carried kind_form form form_fields
    encode_value encode_values little_bytes ◌>>=◌ demand placed answered
built p k o a b d room = build_by_number p k o a b d room

-- ---- layouts, tables and plans

-- a layout of the version v with n columns
abbrev laid : ℕ → ℕ → Bytes → Bytes
laid v n cs = 0x4C ∷ 0x41 ∷ 0x59 ∷ v ∷ 0 ∷ n ∷ 0 ∷ cs

-- a column of version 1 with a name of one byte
abbrev named : ℕ → Bytes → Bytes
named c t = 1 ∷ c ∷ t

-- and of version 2
abbrev numbered : ℕ → ℕ → Bytes → Bytes
numbered c i t = 1 ∷ c ∷ i ∷ 0 ∷ 0 ∷ 0 ∷ t

abbrev struct_of : ℕ → Bytes → Bytes
struct_of n cs = 18 ∷ n ∷ 0 ∷ cs

-- a table of n entries
abbrev defaults : ℕ → Bytes → Bytes
defaults n es = 0x44 ∷ 0x45 ∷ 0x46 ∷ 1 ∷ 0 ∷ n ∷ 0 ∷ es

-- an entry of the id i and the kind k
abbrev entry_of : ℕ → ℕ → Bytes → Bytes
entry_of i k r = i ∷ 0 ∷ 0 ∷ 0 ∷ k ∷ r

-- a plan of n selectors
abbrev planned : ℕ → Bytes → Bytes
planned n ss = 0x50 ∷ 0x4C ∷ 0x4E ∷ 1 ∷ 0 ∷ n ∷ 0 ∷ ss

-- every flag on; extra fields under Raise; missing fields under Raise; missing columns under Raise; null_upcast off;
-- extra columns under Raise
abbrev on : Policy
on = policy_of 65535

abbrev no_extras : Policy
no_extras = policy_of 61439

abbrev no_missing : Policy
no_missing = policy_of 63487

abbrev no_missing_columns : Policy
no_missing_columns = policy_of 57343

abbrev no_nulls : Policy
no_nulls = policy_of 65534

abbrev no_extra_columns : Policy
no_extra_columns = policy_of 32767

-- one column t by name, with room for the plan
abbrev by_name_lem : Policy → Bytes → Bytes → Answer Bytes
by_name_lem p t u = build_by_name p (laid 1 1 (named 0x74 t)) (laid 1 1 (named 0x74 u)) 1000

-- one column t of the id 1 by number
abbrev by_number : Policy → Bytes → Bytes → Bytes → Answer Bytes
by_number p d t u = build_by_number p 0 0 (laid 2 1 (numbered 0x74 1 t)) (laid 2 1 (numbered 0x74 1 u)) d 1000

-- ---- S1 to S4, S12

s1 : build_by_name on (0x4C ∷ 0x41 ∷ 0x59 ∷ 1 ∷ 0 ∷ 1 ∷ 0 ∷ 1 ∷ 0x74 ∷ 3 ∷ []) (0x4C ∷ 0x41 ∷ 0x59 ∷ 1 ∷ 0 ∷ 2 ∷ 0 ∷ 1 ∷ 0x74 ∷ 4 ∷ 1 ∷ 0x73 ∷ 0x0F ∷ []) 18
    ≡ accepted (0x50 ∷ 0x4C ∷ 0x4E ∷ 1 ∷ 0 ∷ 2 ∷ 0 ∷ 2 ∷ 0 ∷ 0 ∷ 0 ∷ 4 ∷ 2 ∷ 1 ∷ 1 ∷ 0x73 ∷ 0x0F ∷ 0 ∷ [])
unfolding built
s1 = refl

-- one byte less is 27
s1_short : build_by_name on (laid 1 1 (named 0x74 (3 ∷ []))) (laid 1 2 (named 0x74 (4 ∷ named 0x73 (15 ∷ [])))) 17 ≡ refused_at 27 0
unfolding built
s1_short = refl

-- 11 at its column
s1_raise : build_by_name no_missing_columns (laid 1 1 (named 0x74 (3 ∷ []))) (laid 1 2 (named 0x74 (4 ∷ named 0x73 (15 ∷ [])))) 18 ≡ refused_at 11 1
unfolding built
s1_raise = refl

s2 : by_name_lem on (8 ∷ []) (4 ∷ []) ≡ refused_at 17 0
unfolding built
s2 = refl

s3 : by_name_lem on (8 ∷ []) (5 ∷ []) ≡ accepted (planned 1 (2 ∷ 0 ∷ 0 ∷ 0 ∷ 5 ∷ 2 ∷ []))
unfolding built
s3 = refl

-- a NonStrict cast, not untouched
s4 : by_name_lem on (14 ∷ 1 ∷ 0 ∷ []) (14 ∷ 1 ∷ 3 ∷ 85 ∷ 84 ∷ 67 ∷ []) ≡ accepted (planned 1 (2 ∷ 0 ∷ 0 ∷ 0 ∷ 14 ∷ 1 ∷ 3 ∷ 85 ∷ 84 ∷ 67 ∷ 0 ∷ []))
unfolding built
s4 = refl

s4_untouched : by_name_lem on (14 ∷ 1 ∷ 0 ∷ []) (14 ∷ 1 ∷ 0 ∷ []) ≡ accepted (planned 1 (0 ∷ 0 ∷ 0 ∷ []))
unfolding built
s4_untouched = refl

s12 : by_name_lem on (20 ∷ 2 ∷ 0 ∷ 0 ∷ 0 ∷ 3 ∷ []) (20 ∷ 3 ∷ 0 ∷ 0 ∷ 0 ∷ 3 ∷ []) ≡ refused_at 24 0
unfolding built
s12 = refl

-- ---- structs by name

-- 13 is looked for after 12
extra_field : by_name_lem no_extras (struct_of 2 (named 0x61 (3 ∷ named 0x62 (3 ∷ [])))) (struct_of 1 (named 0x61 (3 ∷ []))) ≡ refused_at 13 0
unfolding built
extra_field = refl

extra_and_repeated : by_name_lem no_extras (struct_of 2 (named 0x62 (3 ∷ named 0x62 (3 ∷ [])))) (struct_of 1 (named 0x61 (3 ∷ []))) ≡ refused_at 12 0
unfolding built
extra_and_repeated = refl

-- 13 before 14
extra_and-missing : by_name_lem (policy_of 59391) (struct_of 1 (named 0x62 (3 ∷ []))) (struct_of 1 (named 0x61 (3 ∷ []))) ≡ refused_at 13 0
unfolding built
extra_and-missing = refl

missing-field : by_name_lem no_missing (struct_of 0 []) (struct_of 1 (named 0x61 (3 ∷ []))) ≡ refused_at 14 0
unfolding built
missing-field = refl

-- equal structs that repeat a name are not tested for equality first
equal-and_repeated : by_name_lem on (struct_of 2 (named 0x61 (3 ∷ named 0x61 (3 ∷ [])))) (struct_of 2 (named 0x61 (3 ∷ named 0x61 (3 ∷ [])))) ≡ refused_at 12 0
unfolding built
equal-and_repeated = refl

-- a null column is cast whole, before 12 is looked for
null-to-struct : by_name_lem on (0 ∷ []) (struct_of 2 (named 0x61 (3 ∷ named 0x61 (3 ∷ [])))) ≡ accepted
    (planned 1 (2 ∷ 0 ∷ 0 ∷ 0 ∷ struct_of 2 (named 0x61 (3 ∷ named 0x61 (3 ∷ [])) ++ (0 ∷ []))))
unfolding built
null-to-struct = refl

null-refused : by_name_lem no_nulls (0 ∷ []) (19 ∷ 3 ∷ []) ≡ refused_at 15 0
unfolding built
null-refused = refl

-- fields in another order: a mapping; in their own: none
reordered : by_name_lem on (struct_of 2 (named 0x61 (3 ∷ named 0x62 (4 ∷ [])))) (struct_of 2 (named 0x62 (4 ∷ named 0x61 (3 ∷ []))))
    ≡ accepted (planned 1 (4 ∷ 0 ∷ 0 ∷ 0 ∷ 2 ∷ 0 ∷ 0 ∷ 1 ∷ 0 ∷ 0 ∷ 0 ∷ 0 ∷ []))
unfolding built
reordered = refl

in_order : by_name_lem on (struct_of 2 (named 0x61 (3 ∷ named 0x62 (4 ∷ [])))) (struct_of 2 (named 0x61 (3 ∷ named 0x62 (4 ∷ [])))) ≡ accepted
    (planned 1 (0 ∷ 0 ∷ 0 ∷ []))
unfolding built
in_order = refl

-- the first fields alone: the counts differ
prefix : by_name_lem on (struct_of 2 (named 0x61 (3 ∷ named 0x62 (4 ∷ [])))) (struct_of 1 (named 0x61 (3 ∷ []))) ≡ accepted
    (planned 1 (4 ∷ 0 ∷ 0 ∷ 0 ∷ 1 ∷ 0 ∷ 0 ∷ 0 ∷ 0 ∷ []))
unfolding built
prefix = refl

-- ---- by number

abbrev none : Bytes
none = defaults 0 []

-- null against a nested type is 24, and a struct has no test 12
null_by_number : by_number on none (0 ∷ []) (struct_of 0 []) ≡ refused_at 24 0
unfolding built
null_by_number = refl

repeated_by_number : by_number on none (struct_of 2 (numbered 0x61 2 (3 ∷ numbered 0x61 3 (3 ∷ []))))
    (struct_of 2 (numbered 0x61 2 (3 ∷ numbered 0x61 3 (3 ∷ [])))) ≡ accepted (planned 1 (0 ∷ 0 ∷ 0 ∷ []))
unfolding built
repeated_by_number = refl

-- elements: 25, and none where an id is 4,294,967,295; an unequal name is a rename inside a mapping
element_ids : by_number on none (19 ∷ numbered 0x65 2 (3 ∷ [])) (19 ∷ numbered 0x65 3 (3 ∷ [])) ≡ refused_at 25 0
unfolding built
element_ids = refl

element_default_id_lem : by_number on none (19 ∷ numbered 0x65 2 (3 ∷ [])) (19 ∷ 1 ∷ 0x65 ∷ 255 ∷ 255 ∷ 255 ∷ 255 ∷ 3 ∷ []) ≡ accepted (planned 1 (0 ∷ 0 ∷ 0 ∷ []))
unfolding built
element_default_id_lem = refl

element-renamed : by_number on none (19 ∷ numbered 0x65 2 (3 ∷ [])) (19 ∷ numbered 0x66 2 (3 ∷ [])) ≡ accepted
    (planned 1 (5 ∷ 0 ∷ 0 ∷ 0 ∷ 3 ∷ 0 ∷ 0 ∷ 0 ∷ 1 ∷ 0x66 ∷ []))
unfolding built
element-renamed = refl

-- ---- defaults

-- the target's field 2, an int8, is missing
abbrev missing_field : Policy → Bytes → Answer Bytes
missing_field p d = by_number p d (struct_of 0 []) (struct_of 1 (numbered 0x61 2 (2 ∷ [])))

-- the plan that gives it the value
abbrev inserted : Bytes → Answer Bytes
inserted v = accepted (planned 1 (4 ∷ 0 ∷ 0 ∷ 0 ∷ 1 ∷ 0 ∷ 1 ∷ 1 ∷ 0x61 ∷ 2 ∷ v))

abbrev initial_seven : Bytes
initial_seven = entry_of 2 0 (2 ∷ 1 ∷ 7 ∷ [])

initial_default_lem : missing_field on (defaults 1 initial_seven) ≡ inserted (1 ∷ 7 ∷ [])
unfolding built
initial_default_lem = refl

-- a null partition value hides the initial default, as one past the end does
partition-null : missing_field on (defaults 2 (initial_seven ++ entry_of 2 1 (0 ∷ 2 ∷ 1 ∷ 0 ∷ 0 ∷ []))) ≡ inserted (0 ∷ [])
unfolding built
partition-null = refl

partition-past-end : missing_field on (defaults 2 (initial_seven ++ entry_of 2 1 (0 ∷ 2 ∷ 0 ∷ 0 ∷ []))) ≡ inserted (0 ∷ [])
unfolding built
partition-past-end = refl

partition_value : missing_field on (defaults 2 (initial_seven ++ entry_of 2 1 (0 ∷ 2 ∷ 1 ∷ 0 ∷ 1 ∷ 9 ∷ []))) ≡ inserted (1 ∷ 9 ∷ [])
unfolding built
partition_value = refl

partition-failed : missing_field on (defaults 2 (initial_seven ++ entry_of 2 1 (1 ∷ []))) ≡ refused_at 26 0
unfolding built
partition-failed = refl

unlike_type : missing_field on (defaults 1 (entry_of 2 0 (6 ∷ 1 ∷ 7 ∷ []))) ≡ refused_at 28 0
unfolding built
unlike_type = refl

-- 14 before a default is looked at
missing-raises : missing_field no_missing (defaults 1 (entry_of 2 1 (1 ∷ []))) ≡ refused_at 14 0
unfolding built
missing-raises = refl

-- a missing top column: its struct's default has the field's default, and null where none
missing-column : build_by_number on 0 0 (laid 2 0 []) (laid 2 1 (numbered 0x74 1 (struct_of 2 (numbered 0x61 2 (2 ∷ numbered 0x62 3 (2 ∷ []))))))
    (defaults 1 initial_seven) 1000
    ≡ accepted (planned 1 (1 ∷ 1 ∷ 0x74 ∷ struct_of 2 (1 ∷ 0x61 ∷ 2 ∷ 1 ∷ 0x62 ∷ 2 ∷ 1 ∷ 1 ∷ 7 ∷ 0 ∷ [])))
unfolding built
missing-column = refl

-- inside an element there is none
missing-in_element : by_number on (defaults 1 initial_seven) (19 ∷ numbered 0x65 9 (struct_of 0 [])) (19 ∷ numbered 0x65 9 (struct_of 1 (numbered 0x61 2 (2 ∷ []))))
    ≡ accepted (planned 1 (5 ∷ 0 ∷ 0 ∷ 0 ∷ 4 ∷ 0 ∷ 0 ∷ 0 ∷ 1 ∷ 0 ∷ 1 ∷ 1 ∷ 0x61 ∷ 2 ∷ 0 ∷ []))
unfolding built
missing-in_element = refl

-- ---- extra top columns (document 02, L3)

-- a build by name of columns of int16, whose names are the bytes ns, to those of the names ms
abbrev columns_of_of : List ℕ → Bytes
columns_of_of [] = []
columns_of_of (c ∷ cs) = named c (3 ∷ columns_of_of cs)

abbrev matched : Policy → List ℕ → List ℕ → Answer Bytes
matched p ns ms = build_by_name p (laid 1 (length ns) (columns_of_of ns)) (laid 1 (length ms) (columns_of_of ms)) 1000

-- of two extra columns the first, with its position among the incoming ones
extra_column : matched no_extra_columns (0x74 ∷ 0x75 ∷ 0x78 ∷ 0x79 ∷ []) (0x75 ∷ 0x74 ∷ []) ≡ refused_at 53 2
unfolding built
extra_column = refl

extra_ignored : matched on (0x74 ∷ 0x75 ∷ 0x78 ∷ 0x79 ∷ []) (0x75 ∷ 0x74 ∷ []) ≡ accepted (planned 2 (0 ∷ 1 ∷ 0 ∷ 0 ∷ 0 ∷ 0 ∷ []))
unfolding built
extra_ignored = refl

-- under Raise a build with no extra column is accepted, also where a target column is missing
no_extra-column : matched no_extra_columns (0x74 ∷ []) (0x75 ∷ 0x74 ∷ []) ≡ accepted (planned 2 (1 ∷ 1 ∷ 0x75 ∷ 3 ∷ 0 ∷ 0 ∷ 0 ∷ 0 ∷ []))
unfolding built
no_extra-column = refl

-- before 11
extra_and-missing-column : matched (policy_of 24575) (0x78 ∷ []) (0x74 ∷ []) ≡ refused_at 53 0
unfolding built
extra_and-missing-column = refl

-- before a column's 24
extra_and_mismatch : build_by_name no_extra_columns (laid 1 2 (named 0x74 (15 ∷ named 0x78 (3 ∷ [])))) (laid 1 1 (named 0x74 (3 ∷ []))) 1000 ≡ refused_at 53 1
unfolding built
extra_and_mismatch = refl

-- by number an extra column has an id that the target lacks, whatever its name
extra_by_number : build_by_number no_extra_columns 0 0 (laid 2 2 (numbered 0x73 1 (3 ∷ numbered 0x74 2 (3 ∷ [])))) (laid 2 1 (numbered 0x74 1 (3 ∷ [])))
    none 1000 ≡ refused_at 53 1
unfolding built
extra_by_number = refl

-- after 10, and after the table's faults
extra_after-version : build_by_number no_extra_columns 0 0 (laid 2 1 (numbered 0x74 1 (3 ∷ []))) (laid 1 0 []) none 1000 ≡ refused_at 10 0
unfolding built
extra_after-version = refl

extra_after-table : build_by_number no_extra_columns 0 0 (laid 2 1 (numbered 0x74 1 (3 ∷ []))) (laid 2 0 []) (defaults 2 (initial_seven ++ initial_seven))
    1000 ≡ refused_at 5 3
unfolding built
extra_after-table = refl

-- before 27
extra_before-length : build_by_name no_extra_columns (laid 1 1 (named 0x78 (3 ∷ []))) (laid 1 0 []) 0 ≡ refused_at 53 0
unfolding built
extra_before-length = refl

-- a struct's extra field stays with 13
extra_field_ignored : by_name_lem no_extra_columns (struct_of 1 (named 0x61 (3 ∷ []))) (struct_of 0 []) ≡ accepted (planned 1 (4 ∷ 0 ∷ 0 ∷ 0 ∷ 0 ∷ 0 ∷ []))
unfolding built
extra_field_ignored = refl

-- ---- reading a table

-- what an entry of version 1 gives for the id 2
abbrev shared : Given → OwnedEntry
shared g = record { owner = Owner.Every; entry = record { id = record { 0 = 2 }; given = g } }

two-kinds : table (defaults 2 (initial_seven ++ entry_of 2 1 (0 ∷ 2 ∷ 1 ∷ 0 ∷ 0 ∷ [])))
    ≡ ok (record {
      version = Shared;
      entries = shared (initial (integer Int8) (vnumber (Leaf.Integer Int8) 7)) ∷ shared
          (partition (integer Int8) (vcons vnull vnil)) ∷ [];
    }) 25
unfolding tabled
two-kinds = refl

-- "a repeated id of one kind 5 once that entry is read": so 2 comes before it
repeated_id : table (defaults 2 (initial_seven ++ initial_seven)) ≡ refuse 5
unfolding tabled
repeated_id = refl

repeated_partition : table (defaults 2 (entry_of 2 1 (1 ∷ []) ++ entry_of 2 1 (0 ∷ 2 ∷ 0 ∷ 0 ∷ []))) ≡ refuse 5
unfolding tabled
repeated_partition = refl

repeated_unread : table (defaults 2 (initial_seven ++ entry_of 2 0 (2 ∷ 1 ∷ []))) ≡ refuse 2
unfolding tabled
repeated_unread = refl

-- 3 at the code, though the bytes end there
not-a_leaf : table (defaults 1 (entry_of 2 0 (18 ∷ []))) ≡ refuse 3
unfolding tabled
not-a_leaf = refl

unknown_kind : table (defaults 1 (entry_of 2 2 [])) ≡ refuse 3
unfolding tabled
unknown_kind = refl

unknown_load : table (defaults 1 (entry_of 2 1 (2 ∷ []))) ≡ refuse 3
unfolding tabled
unknown_load = refl

bad_presence : table (defaults 1 (entry_of 2 0 (2 ∷ 2 ∷ []))) ≡ refuse 3
unfolding tabled
bad_presence = refl

left_over : table (defaults 0 (0 ∷ [])) ≡ refuse 6
unfolding tabled
left_over = refl

wrong_mark : table (laid 1 0 []) ≡ refuse 1
unfolding tabled
wrong_mark = refl

-- the order of a build's readings: both layouts, 10, then the table
order : build_by_number on 0 0 (laid 2 0 []) (laid 1 0 []) [] 1000 ≡ refused_at 10 0
unfolding built
order = refl

order_table : build_by_number on 0 0 (laid 2 0 []) (laid 2 1 (numbered 0x74 1 (0 ∷ []))) [] 1000 ≡ refused_at 1 3
unfolding built
order_table = refl

-- ---- document 02, L7: a build names its owner. Owners 1 and 258 have an int8 for the id 2

abbrev owned : Bytes
owned = 0x44 ∷ 0x45 ∷ 0x46 ∷ 2 ∷ 0 ∷ 2 ∷ 0 ∷ 1 ∷ 0 ∷ (initial_seven ++ (2 ∷ 1 ∷ entry_of 2 0 (2 ∷ 1 ∷ 9 ∷ [])))

abbrev missing_of : ℕ → Bytes → Answer Bytes
missing_of n d = build_by_number on 0 n (laid 2 0 []) (laid 2 1 (numbered 0x61 2 (2 ∷ []))) d 1000

abbrev constant_of : Bytes → Answer Bytes
constant_of v = accepted (planned 1 (1 ∷ 1 ∷ 0x61 ∷ 2 ∷ v))

own : missing_of 1 owned ≡ constant_of (1 ∷ 7 ∷ [])
unfolding built
own = refl

neighbour : missing_of 258 owned ≡ constant_of (1 ∷ 9 ∷ [])
unfolding built
neighbour = refl

-- not the low byte alone
neither : missing_of 2 owned ≡ constant_of (0 ∷ [])
unfolding built
neither = refl

every : missing_of 3 (defaults 1 initial_seven) ≡ constant_of (1 ∷ 7 ∷ [])
unfolding built
every = refl

-- ---- required fields (document 02, L5). 54 and 55 are met at their column; the place that a call gives them is 0
-- (`place_of`, crate demands).

-- a column of version 3 with the mark r: 0 optional, 1 required
abbrev marked : ℕ → ℕ → ℕ → Bytes → Bytes
marked c i r t = 1 ∷ c ∷ i ∷ 0 ∷ 0 ∷ 0 ∷ r ∷ t

-- one column t of the id 1, of version 3, with the marks a and b
abbrev by_marks : Policy → Bytes → ℕ → Bytes → ℕ → Bytes → Answer Bytes
by_marks p d a t b u = build_by_number p 0 0 (laid 3 1 (marked 0x74 1 a t)) (laid 3 1 (marked 0x74 1 b u)) d 1000

-- no column, and one column t
abbrev add_marked : Policy → Bytes → ℕ → Bytes → Answer Bytes
add_marked p d b u = build_by_number p 0 0 (laid 3 0 []) (laid 3 1 (marked 0x74 1 b u)) d 1000

-- "55 when an optional .. field meets a required one"
optional-meets-required : by_marks on none 0 (3 ∷ []) 1 (3 ∷ []) ≡ refused_at 55 0
unfolding built
optional-meets-required = refl

-- "or null-type", also where it is marked
null-type-meets-required : by_marks on none 1 (0 ∷ []) 1 (3 ∷ []) ≡ refused_at 55 0
unfolding built
null-type-meets-required = refl

-- "Older columns count as optional; building by number takes 2 or 3", one of each
second-meets-required : build_by_number on 0 0 (laid 2 1 (numbered 0x74 1 (3 ∷ []))) (laid 3 1 (marked 0x74 1 1 (3 ∷ []))) none 1000 ≡ refused_at 55 0
unfolding built
second-meets-required = refl

second-meets-optional : build_by_number on 0 0 (laid 2 1 (numbered 0x74 1 (3 ∷ []))) (laid 3 1 (marked 0x74 1 0 (3 ∷ []))) none 1000
    ≡ accepted (planned 1 (0 ∷ 0 ∷ 0 ∷ []))
unfolding built
second-meets-optional = refl

third_by_name : build_by_name on (laid 3 0 []) (laid 1 0 []) 1000 ≡ refused_at 10 0
unfolding built
third_by_name = refl

first_by_number : build_by_number on 0 0 (laid 3 0 []) (laid 1 0 []) none 1000 ≡ refused_at 10 0
unfolding built
first_by_number = refl

-- required meets required; an optional target column takes any
required-meets-required : by_marks on none 1 (3 ∷ []) 1 (4 ∷ []) ≡ accepted (planned 1 (2 ∷ 0 ∷ 0 ∷ 0 ∷ 4 ∷ 2 ∷ []))
unfolding built
required-meets-required = refl

required-meets-optional : by_marks on none 1 (3 ∷ []) 0 (3 ∷ []) ≡ accepted (planned 1 (0 ∷ 0 ∷ 0 ∷ []))
unfolding built
required-meets-optional = refl

null-type-meets-optional : by_marks on none 1 (0 ∷ []) 0 (3 ∷ []) ≡ accepted (planned 1 (2 ∷ 0 ∷ 0 ∷ 0 ∷ 3 ∷ 0 ∷ []))
unfolding built
null-type-meets-optional = refl

-- "tested before their types": before 24
optional-and_mismatch : by_marks on none 0 (15 ∷ []) 1 (3 ∷ []) ≡ refused_at 55 0
unfolding built
optional-and_mismatch = refl

required-and_mismatch : by_marks on none 1 (15 ∷ []) 1 (3 ∷ []) ≡ refused_at 24 0
unfolding built
required-and_mismatch = refl

-- "(elements: after 25)", and before their types
element-optional : by_marks on none 0 (19 ∷ marked 0x65 2 0 (3 ∷ [])) 0 (19 ∷ marked 0x65 2 1 (15 ∷ [])) ≡ refused_at 55 0
unfolding built
element-optional = refl

element-optional_ids : by_marks on none 0 (19 ∷ marked 0x65 2 0 (3 ∷ [])) 0 (19 ∷ marked 0x65 3 1 (3 ∷ [])) ≡ refused_at 25 0
unfolding built
element-optional_ids = refl

-- .. so after kind and width
element-optional-width : by_marks on none 0 (20 ∷ 2 ∷ 0 ∷ 0 ∷ 0 ∷ marked 0x65 2 0 (3 ∷ [])) 0 (20 ∷ 3 ∷ 0 ∷ 0 ∷ 0 ∷ marked 0x65 2 1 (3 ∷ [])) ≡ refused_at 24 0
unfolding built
element-optional-width = refl

array_element-optional : by_marks on none 0 (20 ∷ 2 ∷ 0 ∷ 0 ∷ 0 ∷ marked 0x65 2 0 (3 ∷ [])) 0 (20 ∷ 2 ∷ 0 ∷ 0 ∷ 0 ∷ marked 0x65 2 1 (3 ∷ [])) ≡ refused_at 55 0
unfolding built
array_element-optional = refl

-- a field in a struct; the struct's 13 comes first
abbrev field_and_extra : Policy → Answer Bytes
field_and_extra p = by_marks p none 0 (struct_of 2 (marked 0x61 2 0 (3 ∷ marked 0x78 5 0 (3 ∷ [])))) 0 (struct_of 1 (marked 0x61 2 1 (3 ∷ [])))

field-optional : field_and_extra on ≡ refused_at 55 0
unfolding built
field-optional = refl

field-optional_extra : field_and_extra no_extras ≡ refused_at 13 0
unfolding built
field-optional_extra = refl

-- "54 when a missing required field .. would be null", after 11
missing-required : add_marked on none 1 (2 ∷ []) ≡ refused_at 54 0
unfolding built
missing-required = refl

missing-required-raises : add_marked no_missing_columns none 1 (2 ∷ []) ≡ refused_at 11 0
unfolding built
missing-required-raises = refl

missing-optional : add_marked on none 0 (2 ∷ []) ≡ accepted (planned 1 (1 ∷ 1 ∷ 0x74 ∷ 2 ∷ 0 ∷ []))
unfolding built
missing-optional = refl

-- a default fills it; in a struct, after 14
abbrev missing_marked : Policy → Bytes → Answer Bytes
missing_marked p d = by_marks p d 0 (struct_of 0 []) 0 (struct_of 1 (marked 0x61 2 1 (2 ∷ [])))

required_default : missing_marked on (defaults 1 initial_seven) ≡ inserted (1 ∷ 7 ∷ [])
unfolding built
required_default = refl

required-none : missing_marked on none ≡ refused_at 54 0
unfolding built
required-none = refl

required-raises : missing_marked no_missing none ≡ refused_at 14 0
unfolding built
required-raises = refl

-- a null partition value is none; 26 and 28 come first
required-null-partition : missing_marked on (defaults 2 (initial_seven ++ entry_of 2 1 (0 ∷ 2 ∷ 1 ∷ 0 ∷ 0 ∷ []))) ≡ refused_at 54 0
unfolding built
required-null-partition = refl

required-failed : missing_marked on (defaults 2 (initial_seven ++ entry_of 2 1 (1 ∷ []))) ≡ refused_at 26 0
unfolding built
required-failed = refl

required_unlike : missing_marked on (defaults 1 (entry_of 2 0 (6 ∷ 1 ∷ 7 ∷ []))) ≡ refused_at 28 0
unfolding built
required_unlike = refl

-- "or a required field in the default put in for a missing one": t has the fields b#2, which has the default 7, and a#3
-- with the mark r
abbrev struct_added : Bytes → ℕ → ℕ → Bytes → Answer Bytes
struct_added d b r u = add_marked on d b (struct_of 2 (marked 0x62 2 0 (2 ∷ marked 0x61 3 r u)))

required_in_default : struct_added (defaults 1 initial_seven) 0 1 (2 ∷ []) ≡ refused_at 54 0
unfolding built
required_in_default = refl

optional_in_default : struct_added (defaults 1 initial_seven) 1 0 (2 ∷ [])
    ≡ accepted (planned 1 (1 ∷ 1 ∷ 0x74 ∷ struct_of 2 (1 ∷ 0x62 ∷ 2 ∷ 1 ∷ 0x61 ∷ 2 ∷ 1 ∷ 1 ∷ 7 ∷ 0 ∷ [])))
unfolding built
optional_in_default = refl

-- a required struct that is null in it, and a required field in an optional one: "below a null there is no value"
struct_in_default : struct_added (defaults 1 initial_seven) 0 1 (struct_of 1 (marked 0x63 4 0 (2 ∷ []))) ≡ refused_at 54 0
unfolding built
struct_in_default = refl

below-null_in_default : struct_added (defaults 1 initial_seven) 0 0 (struct_of 1 (marked 0x63 4 1 (2 ∷ [])))
    ≡ accepted (planned 1 (1 ∷ 1 ∷ 0x74 ∷ struct_of 2 (1 ∷ 0x62 ∷ 2 ∷ 1 ∷ 0x61 ∷ struct_of 1 (1 ∷ 0x63 ∷ 2 ∷ 1 ∷ 1 ∷ 7 ∷ 0 ∷ []))))
unfolding built
below-null_in_default = refl

-- so with no default at all: the struct is null
below-null : struct_added none 0 1 (2 ∷ []) ≡ accepted (planned 1 (1 ∷ 1 ∷ 0x74 ∷ struct_of 2 (1 ∷ 0x62 ∷ 2 ∷ 1 ∷ 0x61 ∷ 2 ∷ 0 ∷ [])))
unfolding built
below-null = refl

required-struct-null : struct_added none 1 1 (2 ∷ []) ≡ refused_at 54 0
unfolding built
required-struct-null = refl

-- inside an element there is no default
required-in_element : by_marks on (defaults 1 initial_seven) 0 (19 ∷ marked 0x65 9 0 (struct_of 0 [])) 0
    (19 ∷ marked 0x65 9 0 (struct_of 1 (marked 0x61 2 1 (2 ∷ []))))
    ≡ refused_at 54 0
unfolding built
required-in_element = refl

-- met at the second column
required-second : build_by_number on 0 0 (laid 3 1 (marked 0x73 1 1 (2 ∷ []))) (laid 3 2 (marked 0x73 1 1 (2 ∷ marked 0x74 2 1 (2 ∷ [])))) none 1000 ≡
    refused_at 54 1
unfolding built
required-second = refl
