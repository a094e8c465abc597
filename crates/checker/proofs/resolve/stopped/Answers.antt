-- `checker::resolve::stopped` meets its contract. Assumes nothing.
use Rattle.walk.proofs.Heads.{is-cast, never_refused}
use Rattle.checker.proofs.Resolving.{stop_column, stop_constant, stop_cast, stop_rename, stop_struct, stop_list, stop_array, stop_bounds}
use Rattle.checker.proofs.Tabled.{table-columns}
use Rattle.checker.proofs.resolve.stopped.Goals as goal

pub slice_bounds-in_column-count : goal.slice_bounds-in_column-count
slice_bounds-in_column-count c =
    c.requires.tables.room

pub slice_bounds-in_column-start : goal.slice_bounds-in_column-start
slice_bounds-in_column-start c =
    c.requires.tables.room

pub in_column-requires : goal.in_column-requires
in_column-requires c =
    let (t, S) = c.requires.stopped_at in record { indexed = table-columns c.requires.tables; column_along = (t, stop_column S (c.head.ensures S.typed.standing.here) c.in-Position.is); from_le_len = stop_bounds S }

pub type_at-requires : goal.type_at-requires
type_at-requires c =
    let (t, S) = c.requires.stopped_at in record { leads_at = (t, stop_constant S (c.head.ensures S.typed.standing.here) c.in-Constant.is); from_le_len = stop_bounds S }

pub skip_by-e-requires : goal.skip_by-e-requires
skip_by-e-requires c =
    c.requires.tables.skips

pub type_at-requires-in-Cast : goal.type_at-requires-in-Cast
type_at-requires-in-Cast c =
    let (t, S) = c.requires.stopped_at in let h = c.head.ensures S.typed.standing.here in record { leads_at = (t, stop_cast S h c.in-Cast.is (c.skip_by-e.ensures (is-cast h c.in-Cast.is).input)); from_le_len = stop_bounds S }

pub returns-in-Position : goal.returns-in-Position
returns-in-Position c =
    λ t S. record { answer = c.in_column.ensures t (stop_column S (c.head.ensures S.typed.standing.here) c.in-Position.is) }

pub returns-in-Constant : goal.returns-in-Constant
returns-in-Constant c =
    λ t S. record { answer = c.type_at.ensures t (stop_constant S (c.head.ensures S.typed.standing.here) c.in-Constant.is) }

pub returns-in-Cast : goal.returns-in-Cast
returns-in-Cast c =
    λ t S. let h = c.head.ensures S.typed.standing.here in record {
      answer = c.type_at-in-Cast.ensures t
          (stop_cast S h c.in-Cast.is (c.skip_by-e.ensures (is-cast h c.in-Cast.is).input));
    }

pub returns-in-Rename : goal.returns-in-Rename
returns-in-Rename c =
    λ t S. stop_rename S (c.head.ensures S.typed.standing.here) c.in-Rename.is

pub returns-in-Struct : goal.returns-in-Struct
returns-in-Struct c =
    λ t S. stop_struct S (c.head.ensures S.typed.standing.here) c.in-Struct.is

pub returns-in-List : goal.returns-in-List
returns-in-List c =
    λ t S. stop_list S (c.head.ensures S.typed.standing.here) c.in-List.is

pub returns-in-Array : goal.returns-in-Array
returns-in-Array c =
    λ t S. stop_array S (c.head.ensures S.typed.standing.here) c.in-Array.is

pub returns-in-Refused : goal.returns-in-Refused
returns-in-Refused c =
    λ t S. never_refused (c.head.ensures S.typed.standing.here) c.in-Refused.is
