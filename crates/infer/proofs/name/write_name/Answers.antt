-- `infer::name::write_name` meets its contract. Assumes nothing.
use native.Mathlib.Omega.{arith}
use Rattle.direct.proofs.Naming.{name_incoming, name-plan}
use Rattle.infer.proofs.Names.{name-short, name-written}
use Rattle.infer.proofs.name.write_name.Goals as goal

pub overflow_add-end-2 : goal.overflow_add-end-2
overflow_add-end-2 c =
    let (b, N, S) = c.requires.name_at in let g = name-short N S in omega arith

pub returns-then-out-end : goal.returns-then-out-end
returns-then-out-end c =
    λ b N h. absurd (omega arith)

pub write_text-requires : goal.write_text-requires
write_text-requires c =
    let (b, N, S) = c.requires.name_at in record {
      span_in = ((name_incoming N c.in-Incoming.is).0, name-short N S);
      s_bound = omega
          (arith, c.requires.s_len_bound);
    }

pub write_text-requires-in-Plan : goal.write_text-requires-in-Plan
write_text-requires-in-Plan c =
    let (b, N, S) = c.requires.name_at in record {
      span_in = ((name-plan N c.in-Plan.is).0, name-short N S);
      s_bound = omega
          (arith, c.requires.s_len_bound);
    }

pub returns-in-Incoming : goal.returns-in-Incoming
returns-in-Incoming c =
    λ b N h. name-written c.args.s.now
    c.args.name.span
    c.args.out.now
    c.args.k
    (name_incoming N c.in-Incoming.is)
    (omega (arith, c.if-out-end.false)) c.write_text.ensures.out_after

pub returns-in-Plan : goal.returns-in-Plan
returns-in-Plan c =
    λ b N h. name-written c.args.plan.now
    c.args.name.span
    c.args.out.now
    c.args.k
    (name-plan N c.in-Plan.is) (omega
    (arith, c.if-out-end.false)) c.write_text-in-Plan.ensures.out_after
