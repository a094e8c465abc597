use Rattle.output.proofs.Casting.{stores_same, stores-cast}
use native.Mathlib.Omega.{arith}
use Rattle.output.proofs.leaf.put_raw.Goals as goal

pub copy_raw-requires : goal.copy_raw-requires
copy_raw-requires c =
    record { raw_at = c.requires.raw_at; rec_bound = omega (arith, c.requires.rec_bound); ends = c.requires.ends }

pub returns-in-Same : goal.returns-in-Same
returns-in-Same c =
    λ X. stores_same _ (c.copy_raw.ensures X) c.in-Same.is

pub returns-in-Cast : goal.returns-in-Cast
returns-in-Cast c =
    λ X. stores-cast _ c.put_cast.ensures c.in-Cast.is
