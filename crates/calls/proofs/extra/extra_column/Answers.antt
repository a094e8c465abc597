-- `calls::extra::extra_column` meets its contract. Assumes nothing.
use mathlib.Core.Path.{refl, sym}
use lib.Seq.{length-take-le}
use Rattle.labels.proofs.Arena.{table_kept}
use Rattle.calls.proofs.Seeking.{ignoring, raising}
use Rattle.calls.proofs.extra.extra_column.Goals as goal

pub slice_bounds-first_extra-end-in-Raise : goal.slice_bounds-first_extra-end-in-Raise
slice_bounds-first_extra-end-in-Raise c =
    sym (length-take-le c.fill_fields-used.result c.fill_fields-used.new.arena c.fill_fields-used.ensures.upper_bound)

pub first_extra-requires : goal.first_extra-requires
first_extra-requires c =
    record { both_in = c.requires; table_of = table_kept c.fill_fields-used.new.arena c.fill_fields-used.new.arena c.fill_fields-used.ensures.upper_bound refl c.fill_fields-used.ensures.table }

pub returns-in-Ignore : goal.returns-in-Ignore
returns-in-Ignore c =
    λ P Q. ignoring c.args.build.matching P.columns Q.columns c.in-Ignore.is

pub returns-in-Raise : goal.returns-in-Raise
returns-in-Raise c =
    λ P Q. raising c.args.build.matching P.columns Q.columns c.in-Raise.is c.first_extra.result (c.first_extra.ensures P Q)
