use Rattle.transfer.proofs.Chaining.{cast_number, cast_same}
use Rattle.transfer.proofs.chain.cast_to.Goals as goal

pub returns-in-Number : goal.returns-in-Number
returns-in-Number c =
    λ x y C. cast_number C c.args.to c.in-Number.is c.converted.ensures

pub returns-in-Same : goal.returns-in-Same
returns-in-Same c =
    λ x y C. cast_same C c.args.to c.in-Same.is
