use Rattle.transfer.proofs.Chaining.{chain-converted}
use Rattle.transfer.proofs.chain.converted.Goals as goal

pub returns-in-Number : goal.returns-in-Number
returns-in-Number c =
    λ y. chain-converted c.args.kind c.args.to
    c.args.n c.convert_leaf.ensures c.in-Number.is y
