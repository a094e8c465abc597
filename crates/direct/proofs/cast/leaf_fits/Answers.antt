-- `direct::cast::leaf_fits` meets its contract. Assumes nothing.
use Rattle.layout.proofs.View.{never_headless}
use Rattle.direct.proofs.Casting.{leaf-passes, struct_passes, list-passes, array-passes, head_zone}
use Rattle.direct.proofs.cast.leaf_fits.Goals as goal

pub pair_passes-requires : goal.pair_passes-requires
pair_passes-requires c =
    (c.requires, head_zone _ c.head.ensures.head_in c.in-Leaf.is)

pub returns-in-Leaf : goal.returns-in-Leaf
returns-in-Leaf c =
    λ Q. leaf-passes Q c.head.ensures.result_value _ c.args.o c.in-Leaf.is c.pair_passes.ensures

pub returns-in-Struct : goal.returns-in-Struct
returns-in-Struct c =
    λ Q. struct_passes Q c.head.ensures.result_value c.args.l _ c.args.o c.from_null.ensures c.in-Struct.is

pub returns-in-List : goal.returns-in-List
returns-in-List c =
    λ Q. list-passes Q c.head.ensures.result_value c.args.l _ c.args.o c.from_null-in-List.ensures c.in-List.is

pub returns-in-Array : goal.returns-in-Array
returns-in-Array c =
    λ Q. array-passes Q c.head.ensures.result_value c.args.l _ c.args.o c.from_null-in-Array.ensures c.in-Array.is

pub returns-in-Refused : goal.returns-in-Refused
returns-in-Refused c =
    λ Q. never_headless Q c.head.ensures.result_value c.in-Refused.is
