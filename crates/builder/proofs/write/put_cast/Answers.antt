-- `builder::write::put_cast` meets its contract. Assumes nothing.
use native.Mathlib.Omega.{arith}
use Rattle.forms.proofs.Writing.{extent}
use Rattle.builder.proofs.Putting.{cast-put, cast-long}
use Rattle.builder.proofs.write.put_cast.Goals as goal

pub overflow_add-k-3 : goal.overflow_add-k-3
overflow_add-k-3 c =
    omega (
      arith,
      extent c.requires.type_at,
      (c.write_form-w.ensures.len_value
          c.requires.type_at).0,
      c.requires.target_bound,
    )

pub overflow_add-result : goal.overflow_add-result
overflow_add-result c =
    omega (
      arith,
      extent c.requires.type_at,
      (c.write_form-w.ensures.len_value
          c.requires.type_at).0,
      c.requires.target_bound,
    )

pub returns : goal.returns
returns c =
    record {
      value = λ Q. cast-long _ _ _ (c.write_form-w.ensures.len_value Q).0;
      out_after = λ Q. cast-put _ _ _ _ _ c.put_head.ensures (c.write_form-w.ensures.len_value Q).0
          (c.write_form-w.ensures.out_after Q) c.option_code.ensures c.put.ensures;
    }
