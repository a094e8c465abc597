-- `direct::cast::type_fits` meets its contract. Assumes nothing.
use Rattle.layout.proofs.View.{never_headless}
use Rattle.direct.proofs.Casting.{head_zone, leaf_type-fits, struct_never, list_never, array_never}
use Rattle.layout.specs.Tree.{dtype_of}
use Rattle.direct.proofs.cast.type_fits.Goals as goal

pub leaf_fits-requires : goal.leaf_fits-requires
leaf_fits-requires c =
    head_zone _ c.head.ensures.head_in c.in-Leaf.is

pub returns-in-Leaf : goal.returns-in-Leaf
returns-in-Leaf c =
    λ T Q. leaf_type-fits T c.head.ensures.result_value (dtype_of Q.tree) c.args.o c.in-Leaf.is (c.leaf_fits.ensures Q)

pub returns-in-Struct : goal.returns-in-Struct
returns-in-Struct c =
    λ T Q. struct_never T c.head.ensures.result_value (dtype_of Q.tree) c.args.o c.in-Struct.is

pub returns-in-List : goal.returns-in-List
returns-in-List c =
    λ T Q. list_never T c.head.ensures.result_value (dtype_of Q.tree) c.args.o c.in-List.is

pub returns-in-Array : goal.returns-in-Array
returns-in-Array c =
    λ T Q. array_never T c.head.ensures.result_value (dtype_of Q.tree) c.args.o c.in-Array.is

pub returns-in-Refused : goal.returns-in-Refused
returns-in-Refused c =
    λ T Q. never_headless T c.head.ensures.result_value c.in-Refused.is
