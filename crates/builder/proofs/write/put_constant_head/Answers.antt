-- `builder::write::put_constant_head` meets its contract. Assumes nothing.
use Rattle.builder.proofs.Putting.{constant_head-put, constant_head-long}
use Rattle.forms.proofs.Writing.{extent, text-long}
use native.Mathlib.Omega.{arith}
use Rattle.builder.proofs.write.put_constant_head.Goals as goal

pub overflow_add-k-2 : goal.overflow_add-k-2
overflow_add-k-2 c =
    omega (
      arith,
      text-long c.args.target.now
          c.args.name
          c.requires.span_in.0,
      c.write_text-n.ensures.value,
      c.requires.span_in,
      c.requires.type_at,
      c.requires.target_bound,
    )

pub overflow_add-k-3 : goal.overflow_add-k-3
overflow_add-k-3 c =
    omega (
      arith,
      text-long c.args.target.now
          c.args.name
          c.requires.span_in.0,
      c.write_text-n.ensures.value,
      c.requires.span_in,
      c.requires.type_at,
      c.requires.target_bound,
    )

pub write_form-w-requires : goal.write_form-w-requires
write_form-w-requires c =
    record {
      type_at = c.requires.type_at;
      s_bound = omega (
        arith,
        text-long c.args.target.now
            c.args.name
            c.requires.span_in.0,
        c.write_text-n.ensures.value,
        c.requires.span_in,
        c.requires.type_at,
        c.requires.target_bound,
      );
    }

pub overflow_add-result : goal.overflow_add-result
overflow_add-result c =
    omega (arith, text-long c.args.target.now c.args.name c.requires.span_in.0, c.write_text-n.ensures.value, c.requires.span_in, c.requires.type_at, c.requires.target_bound)

pub overflow_add-result-2 : goal.overflow_add-result-2
overflow_add-result-2 c =
    omega (
      arith,
      text-long c.args.target.now c.args.name c.requires.span_in.0,
      c.write_text-n.ensures.value,
      c.requires.span_in,
      c.requires.type_at,
      c.requires.target_bound,
      extent
          c.requires.type_at,
      (c.write_form-w.ensures.len_value
          c.requires.type_at).0,
    )

pub returns : goal.returns
returns c =
    record {
      value = λ Q. constant_head-long _ _ c.write_text-n.ensures.value (c.write_form-w.ensures.len_value Q).0;
      out_after = λ Q. constant_head-put _ _ _ _ c.put.ensures
          c.write_text-n.ensures.value c.write_text-n.ensures.out_after (c.write_form-w.ensures.out_after Q);
    }
