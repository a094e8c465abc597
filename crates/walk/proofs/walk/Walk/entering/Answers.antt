-- `walk::walk::Walk::entering` meets its contract: by the path and the part. Assumes nothing.
use Rattle.walk.proofs.Moving.{entering-ended, entering-part, entering-none}
use Rattle.walk.proofs.Walks.{walk_small}
use Rattle.walk.proofs.walk.Walk.entering.Goals as goal

pub part_in-requires : goal.part_in-requires
part_in-requires c =
    record { skips = c.requires.skips; ends_at = c.requires.ends_at; at_bound = walk_small c.requires.walk_at.1 }

pub returns-in-At : goal.returns-in-At
returns-in-At c =
    λ x M m. entering-part M m c.if-d-self.true c.part_in.ensures c.in-At.is

pub returns-in-None : goal.returns-in-None
returns-in-None c =
    λ x M m. entering-none M m c.if-d-self.true c.part_in.ensures c.in-None.is

pub returns-else-d-self : goal.returns-else-d-self
returns-else-d-self c =
    λ x M m. entering-ended M m c.if-d-self.false
