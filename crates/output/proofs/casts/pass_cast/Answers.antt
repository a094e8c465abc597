use Rattle.output.proofs.Passing.{type-leaf, type-struct, type-list, type-array}
use Rattle.layout.proofs.View.{never_headless}
use Rattle.output.proofs.casts.pass_cast.Goals as goal

pub returns-in-Leaf : goal.returns-in-Leaf
returns-in-Leaf c =
    λ T. type-leaf T c.head.ensures.result_value c.in-Leaf.is

pub returns-in-Struct : goal.returns-in-Struct
returns-in-Struct c =
    λ T. type-struct T c.head.ensures.result_value c.in-Struct.is

pub returns-in-List : goal.returns-in-List
returns-in-List c =
    λ T. type-list T c.head.ensures.result_value c.in-List.is

pub returns-in-Array : goal.returns-in-Array
returns-in-Array c =
    λ T. type-array T c.head.ensures.result_value c.in-Array.is

pub returns-in-Refused : goal.returns-in-Refused
returns-in-Refused c =
    λ T. never_headless T c.head.ensures.result_value c.in-Refused.is
