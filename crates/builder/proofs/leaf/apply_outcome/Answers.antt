-- `builder::leaf::apply_outcome` meets its contract. Assumes nothing.
use native.Mathlib.Omega.{arith}
use Rattle.forms.proofs.Writing.{extent}
use Rattle.builder.proofs.Putting.{ruled-bare, ruled-refused, ruled-cast}
use Rattle.builder.proofs.leaf.apply_outcome.Goals as goal

pub put_position-requires : goal.put_position-requires
put_position-requires c =
    omega (arith, extent c.requires.type_at, c.requires.target_len_bound)

pub put_cast-requires : goal.put_cast-requires
put_cast-requires c =
    record {
      type_at = c.requires.type_at;
      target_bound = omega (
        arith,
        extent
            c.requires.type_at,
        c.requires.target_len_bound,
      );
    }

pub returns-in-Untouched : goal.returns-in-Untouched
returns-in-Untouched c =
    λ Q. ruled-bare Q _ _ _ c.in-Untouched.is c.put_position.ensures

pub returns-in-Refused : goal.returns-in-Refused
returns-in-Refused c =
    λ Q. ruled-refused Q _ _ _ _ c.in-Refused.is c.mismatch_number.ensures

pub returns-in-Cast : goal.returns-in-Cast
returns-in-Cast c =
    λ Q. ruled-cast Q _ _ _ c.in-Cast.is (c.put_cast.ensures.value Q) (c.put_cast.ensures.out_after Q)
