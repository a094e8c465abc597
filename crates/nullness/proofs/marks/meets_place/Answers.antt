-- `nullness::marks::meets_place` meets its contract: an optional field takes all; a required one what is followed.
-- Assumes nothing.
use Rattle.nullness.proofs.Meeting.{place-optional, place_follows, place_filled}
use Rattle.nullness.proofs.Placing.{untold}
use Rattle.plan.proofs.Skipping.{told}
use mathlib.Core.Path.{ap}
use mathlib.Core.Bool.{not}
use Rattle.nullness.proofs.marks.meets_place.Goals as goal

pub returns-then-not-required : goal.returns-then-not-required
returns-then-not-required c =
    λ P u S. place-optional _ (untold _ (ap not c.if-not-required.true))

pub follow-requires : goal.follow-requires
follow-requires c =
    record {
      skips = c.requires.skips;
      index_at = c.requires.index_at;
      follows = (
        c.requires.place_at.0,
        place_follows _ _ c.requires.place_at.2 c.requires.len_bound.1 c.requires.len_bound.0
            c.start.ensures,
      );
    }

pub returns : goal.returns
returns c =
    λ P u S. place_filled _ _ S c.requires.len_bound.1 c.requires.len_bound.0 c.start.ensures _ (told _ (ap not c.if-not-required.false)) (c.follow.ensures P)
