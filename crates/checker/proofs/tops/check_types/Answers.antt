-- `checker::tops::check_types` meets its contract. Assumes nothing.
use Rattle.checker.proofs.Topping.{read_direct}
use Rattle.checker.proofs.Tabled.{tables_room, tables_made}
use Rattle.plan.proofs.Skipping.{skips-none}
use Rattle.layout.specs.Tree.{fields_of}
use lib.Seq.{length-take-le}
use mathlib.Core.Path.{sym}
use Rattle.checker.proofs.tops.check_types.Goals as goal

pub fits_target-requires : goal.fits_target-requires
fits_target-requires c =
    let (Γ, ss, T) = c.requires.tops_at in record { columns_at = T.columns; selectors_at = T.selectors; columns_at_2 = c.requires.columns_at }

pub returns-then-fits_target : goal.returns-then-fits_target
returns-then-fits_target c =
    λ Γ ss Q T. read_direct T (fields_of Q.columns) (c.fits_target.ensures c.if-fits_target.true T.columns T.selectors Q)

pub read_selectors-requires : goal.read_selectors-requires
read_selectors-requires c =
    skips-none 4864

pub slice_bounds-tables-end-2 : goal.slice_bounds-tables-end-2
slice_bounds-tables-end-2 c =
    tables_room c.read_selectors.new.skips c.index_columns-len.new.starts _ c.read_selectors.ensures.skips.1
    c.index_columns-len.ensures.upper_bound

pub slice_bounds-check_each-end : goal.slice_bounds-check_each-end
slice_bounds-check_each-end c =
    sym (length-take-le _ _
    (tables_room c.read_selectors.new.skips c.index_columns-len.new.starts _ c.read_selectors.ensures.skips.1
    c.index_columns-len.ensures.upper_bound))

pub check_each-requires : goal.check_each-requires
check_each-requires c =
    record {
      tables = tables_made c.read_selectors.new.skips c.index_columns-len.new.starts _ c.read_selectors.ensures.skips.1
          c.index_columns-len.ensures.upper_bound c.read_selectors.ensures.skips.0 c.stride_of.ensures.value
          c.index_columns-len.ensures.indexed;
      tops_at = c.requires.tops_at;
      columns_at = c.requires.columns_at;
    }

pub returns : goal.returns
returns c =
    c.check_each.ensures
