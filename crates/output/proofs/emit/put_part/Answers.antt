use Rattle.ends.proofs.Entries.{ends-none}
use Rattle.raw.proofs.Storing.{stores_as}
use Rattle.output.proofs.Casting.{stores_uncast}
use mathlib.Core.Path.{refl, ◌∙◌}
use Rattle.output.proofs.emit.put_part.Goals as goal

pub returns-then-casts-eq0 : goal.returns-then-casts-eq0
returns-then-casts-eq0 c =
    λ X x z ks W p e. stores_uncast _ ks (c.copy_constant.ensures X) (e ∙ c.if-casts-eq0.true)

pub put_raw-requires : goal.put_raw-requires
put_raw-requires c =
    record { ends = ends-none refl; raw_at = c.requires.raw_at; rec_bound = c.requires.plan_bound }

pub returns : goal.returns
returns c =
    λ X x z ks W p e. stores_as (c.cast_leaf-cast.ensures X x z ks W p e) (c.put_raw.ensures X)
