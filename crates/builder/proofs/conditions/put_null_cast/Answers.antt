-- `builder::conditions::put_null_cast` meets its contract. Assumes nothing.
use native.Mathlib.Omega.{arith}
use Rattle.forms.proofs.Writing.{extent}
use Rattle.builder.proofs.Whole.{null_cast_lem, null-refused}
use Rattle.builder.proofs.conditions.put_null_cast.Goals as goal

pub put_cast-requires : goal.put_cast-requires
put_cast-requires c =
    record {
      type_at = c.requires.type_at;
      target_bound = omega
          (arith, extent c.requires.type_at, c.requires.target_len_bound);
    }

pub returns-then-policy : goal.returns-then-policy
returns-then-policy c =
    λ Q. null_cast_lem c.args.policy
    c.args.position Q _ _ c.if-policy.true
    (c.put_cast.ensures.value Q) (c.put_cast.ensures.out_after Q)

pub returns : goal.returns
returns c =
    λ Q. null-refused c.args.policy c.args.position Q _ _ _ c.if-policy.false
