-- `checker::selector::check_input` meets its contract. Assumes nothing.
use mathlib.Core.Path.{refl, sym, ◌∙◌}
use mathlib.Core.Bool.{true}
use Rattle.walk.proofs.Heads.{is_position_lem, is-constant, is-cast, is-rename, is_struct_mapping, is_list_mapping, is-array, never_refused}
use Rattle.walk.proofs.View.{selectors-counted}
use Rattle.checker.proofs.Resolving.{named-typed}
use Rattle.checker.proofs.Selecting.{by_cast, by_rename, no_source, input-given, input_measured, a_rename, none_left, some-fields, some-list, some-array}
use Rattle.checker.proofs.selector.check_input.Goals as goal

pub cast_result-requires : goal.cast_result-requires
cast_result-requires c =
    let (s, Δ, R) = c.requires.passed_input in let K = is-cast (c.head.ensures
    R.checking.standing.here) c.in-Cast.is in record { tables = c.requires.tables; option_at = (R.column, K.input, K.type, K.option, named-typed R.named) }

pub rename_result-requires : goal.rename_result-requires
rename_result-requires c =
    let (s, Δ, R) = c.requires.passed_input in record { tables = c.requires.tables; named_at = (R.known, R.column, R.named, R.sized) }

pub skip_by-requires : goal.skip_by-requires
skip_by-requires c =
    c.requires.tables.skips

pub input_head-requires : goal.input_head-requires
input_head-requires c =
    let (s, Δ, R) = c.requires.passed_input in record { tables = c.requires.tables; typed_at = (_, named-typed R.named) }

pub input_head-requires-in-List : goal.input_head-requires-in-List
input_head-requires-in-List c =
    let (s, Δ, R) = c.requires.passed_input in record { tables = c.requires.tables; typed_at = (_, named-typed R.named) }

pub input_head-requires-in-Array : goal.input_head-requires-in-Array
input_head-requires-in-Array c =
    let (s, Δ, R) = c.requires.passed_input in record { tables = c.requires.tables; typed_at = (_, named-typed R.named) }

pub returns-in-Position : goal.returns-in-Position
returns-in-Position c =
    λ s Δ R. no_source R (is_position_lem (c.head.ensures R.checking.standing.here) c.in-Position.is).1 refl

pub returns-in-Constant : goal.returns-in-Constant
returns-in-Constant c =
    λ s Δ R. no_source R (is-constant (c.head.ensures R.checking.standing.here) c.in-Constant.is).is refl

pub returns-in-Cast : goal.returns-in-Cast
returns-in-Cast c =
    λ s Δ R. let K = is-cast (c.head.ensures R.checking.standing.here)
    c.in-Cast.is in
    none_left c.nothing_left.ensures (record {
      known = true;
      is = input-given R (by_cast R.checking K) (c.cast_result.ensures R.column K.input K.type K.option (named-typed R.named));
    })

pub returns-in-Rename : goal.returns-in-Rename
returns-in-Rename c =
    λ s Δ R. let K = is-rename (c.head.ensures R.checking.standing.here)
    c.in-Rename.is in none_left c.nothing_left-in-Rename.ensures (input_measured R (by_rename R.checking K) (a_rename R.column
    K.name.bytes (c.rename_result.ensures R.known R.column K.name.bytes R.named R.sized R.limited)))

pub returns-in-Struct : goal.returns-in-Struct
returns-in-Struct c =
    λ s Δ R. let K = is_struct_mapping (c.head.ensures R.checking.standing.here)
    c.in-Struct.is in some-fields R K (c.input_head.ensures R.column.type (named-typed R.named))
    (selectors-counted _ K.fields.selectors ∙ sym (c.counted_at-f.ensures K.input.end K.fields
    (c.skip_by.ensures K.input)).count) c.fields_left.ensures

pub returns-in-List : goal.returns-in-List
returns-in-List c =
    λ s Δ R. let K = is_list_mapping (c.head.ensures R.checking.standing.here) c.in-List.is in
    some-list R K (c.input_head-in-List.ensures R.column.type (named-typed R.named)) c.listed_left.ensures

pub returns-in-Array : goal.returns-in-Array
returns-in-Array c =
    λ s Δ R. let K = is-array (c.head.ensures R.checking.standing.here) c.in-Array.is
    in some-array R K (c.input_head-in-Array.ensures R.column.type (named-typed R.named)) c.arrayed_left.ensures

pub returns-in-Refused : goal.returns-in-Refused
returns-in-Refused c =
    λ s Δ R. never_refused (c.head.ensures R.checking.standing.here) c.in-Refused.is
