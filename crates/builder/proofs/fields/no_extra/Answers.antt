-- `builder::fields::no_extra` meets its contract. Assumes nothing.
use mathlib.Core.Path.{refl, sym}
use lib.Seq.{length-take-le}
use Rattle.labels.proofs.Arena.{table_kept}
use Rattle.builder.proofs.fields.no_extra.Goals as goal

pub slice_bounds-no_extra_in-end-2 : goal.slice_bounds-no_extra_in-end-2
slice_bounds-no_extra_in-end-2 c =
    sym (length-take-le c.fill_fields-used.result
    c.fill_fields-used.new.arena c.fill_fields-used.ensures.upper_bound)

pub no_extra_in-requires : goal.no_extra_in-requires
no_extra_in-requires c =
    record {
      rows_at = c.requires;
      table_of = table_kept c.fill_fields-used.new.arena c.fill_fields-used.new.arena c.fill_fields-used.ensures.upper_bound refl
          c.fill_fields-used.ensures.table;
    }
