-- `builder::fields::distinct_names` meets its contract. Assumes nothing.
use mathlib.Core.Path.{sym}
use lib.Seq.{length-take-le}
use Rattle.builder.proofs.Repeated.{names_read, names_refused}
use Rattle.builder.proofs.fields.distinct_names.Goals as goal

pub returns-then-n-le8 : goal.returns-then-n-le8
returns-then-n-le8 c =
    c.distinct_few.ensures

pub slice_bounds-read_columns-end-2 : goal.slice_bounds-read_columns-end-2
slice_bounds-read_columns-end-2 c =
    sym (length-take-le _ _ c.clear_slots-slots.ensures)

pub returns-in-To : goal.returns-in-To
returns-in-To c =
    λ P. names_read c.read_columns.ensures.value P c.in-To.is

pub returns-in-Refused : goal.returns-in-Refused
returns-in-Refused c =
    λ P. names_refused c.read_columns.ensures.value P c.in-Refused.is
