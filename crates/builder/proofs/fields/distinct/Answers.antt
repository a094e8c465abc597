-- `builder::fields::distinct` meets its contract. Assumes nothing.
use Rattle.builder.proofs.Names.{distinct-name, distinct-number}
use Rattle.builder.proofs.fields.distinct.Goals as goal

pub returns-in-ByName : goal.returns-in-ByName
returns-in-ByName c =
    λ P. distinct-name P.columns c.in-ByName.is (c.distinct_names.ensures P)

pub returns-in-ByNumber : goal.returns-in-ByNumber
returns-in-ByNumber c =
    λ P. distinct-number P.columns c.in-ByNumber.is
