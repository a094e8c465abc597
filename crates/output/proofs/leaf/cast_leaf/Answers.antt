use Rattle.output.proofs.Casting.{left_uncast, left_other, left-cast}
use mathlib.Core.Path.{◌∙◌}
use Rattle.output.proofs.leaf.cast_leaf.Goals as goal

pub returns-then-casts-eq0 : goal.returns-then-casts-eq0
returns-then-casts-eq0 c =
    λ X x z ks W p e. left_uncast ks _ (e ∙ c.if-casts-eq0.true)

pub returns-in-Number : goal.returns-in-Number
returns-in-Number c =
    λ X x z ks W p e. left-cast ks (c.leaf_at.ensures X) c.in-Number.is (c.cast_number.ensures x z ks W p e)

pub returns-in-Other : goal.returns-in-Other
returns-in-Other c =
    λ X x z ks W p e. left_other ks (c.leaf_at.ensures X) c.in-Other.is
