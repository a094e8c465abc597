-- `checker::part::enclosing` meets its contract. Assumes nothing.
use Rattle.checker.proofs.Parting.{enclosed_asks, enclosing_asks, enclosing-is}
use Rattle.checker.proofs.part.enclosing.Goals as goal

pub outward-y-requires : goal.outward-y-requires
outward-y-requires c =
    let (Δ, S) = c.requires.scoped_at in enclosed_asks S c.requires.deep_nonzero

pub resolve-requires : goal.resolve-requires
resolve-requires c =
    let (Δ, S) = c.requires.scoped_at in record {
      tables = c.requires.tables;
      typed_at = enclosing_asks S
          c.requires.deep_nonzero c.outward-y.ensures.steps_to;
    }

pub returns : goal.returns
returns c =
    λ Δ S. enclosing-is S c.requires.deep_nonzero c.outward-y.ensures.steps_to c.resolve.ensures
