use native.Mathlib.Omega.{arith}
use Rattle.transfer.proofs.Reaching.{reached_as, reached_null, raw-clean}
use Rattle.transfer.proofs.leaf.put_node.Goals as goal

pub copy_raw-requires : goal.copy_raw-requires
copy_raw-requires c =
    let (x, N) = c.requires.node_in in record { raw_at = (N.here _ _ c.in-At.is).raw; rec_bound = omega (arith, c.requires.rec_len_bound); ends = c.requires.ends }

pub returns-in-Null : goal.returns-in-Null
returns-in-Null c =
    λ x N. reached_null (N.none c.in-Null.is) c.put_nothing.ensures

pub returns-in-At : goal.returns-in-At
returns-in-At c =
    λ x N. let I = N.here _ _ c.in-At.is in reached_as I.is (c.limited.ensures _ _ _ _ _ (raw-clean (λ i. omega (
      arith,
      c.type_inv.rec i,
    )) I.raw) (c.copy_raw.ensures I.raw))
