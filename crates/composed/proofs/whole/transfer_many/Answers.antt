use native.Mathlib.Omega.{arith}
use mathlib.Core.Path.{sym}
use lib.Seq.{length-take-le}
use Rattle.composed.proofs.whole.transfer_many.Goals as goal

pub index_row-m-requires : goal.index_row-m-requires
index_row-m-requires c =
    record { row_in = c.requires.row_at; ends = c.requires.ends }

pub slice_bounds-transfer_tops-end : goal.slice_bounds-transfer_tops-end
slice_bounds-transfer_tops-end c =
    sym (length-take-le _ _ c.index_row-m.ensures.upper_bound)

pub slice_bounds-transfer_tops-end-2 : goal.slice_bounds-transfer_tops-end-2
slice_bounds-transfer_tops-end-2 c =
    sym (length-take-le _ _ c.index_row-m.ensures.upper_bound_2)

pub transfer_tops-requires : goal.transfer_tops-requires
transfer_tops-requires c =
    record {
      ends = c.requires.ends;
      row_in = c.requires.row_at;
      indexed_in = (c.index_row-m.ensures.indexed_in, c.stride_of.ensures.result_nonzero);
      selectors_in = c.requires.selectors_at;
      rec_len_bound = (
        c.requires.rec_len_bound.0,
        c.requires.rec_len_bound.1,
        omega arith,
      );
    }
