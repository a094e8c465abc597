-- `labels::find_in` meets its contract. Assumes nothing.
use native.Mathlib.Omega.{arith}
use Rattle.labels.proofs.find_in.Goals as goal

pub counterpart_in-requires : goal.counterpart_in-requires
counterpart_in-requires c =
    record {
      columns_at = c.requires.columns_at;
      table = c.requires.table
          (omega arith);
      span_in = c.requires.span_in;
    }
