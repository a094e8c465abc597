-- `checker::part::raw_part` meets its contract. Assumes nothing.
use Rattle.checker.proofs.Parting.{part-leads}
use native.Mathlib.Omega.{arith}
use Rattle.checker.proofs.part.raw_part.Goals as goal

pub type_at-requires : goal.type_at-requires
type_at-requires c =
    let (t, a, T, P) = c.requires in record { leads_at = (_, part-leads T P c.one-path.ensures.1); from_le_len = (omega arith, omega arith) }

pub returns : goal.returns
returns c =
    λ t a T P. c.type_at.ensures a.type (part-leads T P c.one-path.ensures.1)
