use native.Mathlib.Omega.{arith}
use Rattle.transfer.proofs.Reaching.{reached_as, raw-clean}
use Rattle.raw.proofs.Constants.{constant-raw}
use Rattle.transfer.proofs.leaf.put_constant.Goals as goal

pub skip_type-c-requires : goal.skip_type-c-requires
skip_type-c-requires c =
    c.requires.constant_raw.type

pub copy_constant-requires : goal.copy_constant-requires
copy_constant-requires c =
    record {
      raw_at = (constant-raw c.requires.constant_raw (c.skip_type-c.ensures c.requires.constant_raw.type)).raw;
      plan_bound = omega
          (arith, c.requires.plan_len_bound);
    }

pub returns : goal.returns
returns c =
    λ X.
    let N = constant-raw X (c.skip_type-c.ensures X.type) in
    let clean = raw-clean (λ i. omega (arith, c.type_inv.plan i)) N.raw in
    reached_as N.is (c.limited.ensures _ _ _ _ _ clean (c.copy_constant.ensures N.raw))
