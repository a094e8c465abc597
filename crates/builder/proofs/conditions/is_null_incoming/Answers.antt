-- `builder::conditions::is_null_incoming` meets its contract. Assumes nothing.
use Rattle.builder.proofs.Whole.{null_by_name, null_by_number}
use Rattle.builder.proofs.conditions.is_null_incoming.Goals as goal

pub returns-in-ByName : goal.returns-in-ByName
returns-in-ByName c =
    λ v d P. null_by_name P.tree c.in-ByName.is (c.is_null_type.ensures v d P)

pub returns-in-ByNumber : goal.returns-in-ByNumber
returns-in-ByNumber c =
    λ v d P. null_by_number P.tree c.in-ByNumber.is
