use Rattle.transfer.proofs.Chaining.{taken-null, taken-number, taken-other, chain-is}
use Rattle.transfer.proofs.chain.taken_leaf.Goals as goal

pub leaf_at-requires : goal.leaf_at-requires
leaf_at-requires c =
    let (x, N) = c.requires in (N.here _ _ c.in-At.is).raw

pub returns-in-Null : goal.returns-in-Null
returns-in-Null c =
    λ x N. taken-null (N.none c.in-Null.is)

pub returns-in-Number : goal.returns-in-Number
returns-in-Number c =
    λ x N. let I = N.here _ _ c.in-At.is in chain-is I.is (taken-number (c.leaf_at.ensures I.raw) c.in-Number.is)

pub returns-in-Other : goal.returns-in-Other
returns-in-Other c =
    λ x N. let I = N.here _ _ c.in-At.is in chain-is I.is (taken-other (c.leaf_at.ensures I.raw) c.in-Other.is)
