-- `nullness::column::incoming_filled` meets its contract: the column where it stands, or none. Assumes nothing.
use Rattle.nullness.proofs.Marking.{column-mark, column-none, marked_fills}
use Rattle.nullness.proofs.column.incoming_filled.Goals as goal

pub indexed_column-requires : goal.indexed_column-requires
indexed_column-requires c =
    record { columns_at = c.requires.columns_in; indexed = rw c.stride_of.ensures.value c.requires.index_at; stride_nonzero = c.stride_of.ensures.result_nonzero }

pub place_filled-requires : goal.place_filled-requires
place_filled-requires c =
    record { type_at = (column-mark c.requires.columns_in _ (c.indexed_column.ensures c.requires.columns_in) c.in-At.is).type; len_in_bounds = c.requires.len_in_bounds }

pub returns-in-At : goal.returns-in-At
returns-in-At c =
    λ P. marked_fills (column-mark P _ (c.indexed_column.ensures P) c.in-At.is) _ c.place_filled.ensures

pub returns-in-Absent : goal.returns-in-Absent
returns-in-Absent c =
    λ P. column-none P _ (c.indexed_column.ensures P) c.in-Absent.is _
