use Rattle.values.proofs.Copying.{copy_within, copy_stored, copy-none}
use Rattle.layout.specs.Tree.{dtype_of}
use native.Mathlib.Omega.{arith}
use Rattle.values.proofs.copy.copy_value.Goals as goal

pub copy-requires : goal.copy-requires
copy-requires c =
    let (a, b) = copy_within (dtype_of c.requires.type_at.tree) _ _ c.requires.type_at.end (c.read_value.ensures c.requires.type_at)
    (λ i. omega (arith, c.type_inv.rec i)) c.in-To.is
    in
    (a, b, omega arith)

pub returns-in-To : goal.returns-in-To
returns-in-To c =
    record {
      value = λ P. rw (← c.in-To.is)
          (c.read_value.ensures P);
      out_after = λ P. copy_stored (dtype_of P.tree) _ _ P.end
          (c.read_value.ensures P)
          (λ i. omega (arith, c.type_inv.rec i)) _ _
          c.in-To.is c.copy.ensures;
    }

pub returns-in-Refused : goal.returns-in-Refused
returns-in-Refused c =
    record {
      value = λ P. rw (← c.in-Refused.is) (c.read_value.ensures P);
      out_after = λ P. copy-none (dtype_of P.tree) _ _ P.end (c.read_value.ensures P) _ _
          c.in-Refused.is;
    }
