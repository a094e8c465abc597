use Rattle.output.proofs.Passing.{onward-to}
use Rattle.walk.proofs.Walks.{walk_starts}
use Rattle.output.proofs.casts.onward.Goals as goal

pub to_input-input-requires : goal.to_input-input-requires
to_input-input-requires c =
    walk_starts c.requires.walk_at.2

pub locate-requires : goal.locate-requires
locate-requires c =
    let E = c.requires.skips in let (x, s, W, I) = c.requires.walk_at in record { skips = E; walk_at = (_, (c.to_input-input.ensures _ x s W I).standing) }

pub returns : goal.returns
returns c =
    λ x s W I. let T = c.to_input-input.ensures _ x s W I in onward-to {x = x} T (c.locate.ensures _ T.standing)
