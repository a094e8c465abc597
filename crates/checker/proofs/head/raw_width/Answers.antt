-- `checker::head::raw_width` meets its contract. Assumes nothing.
use Rattle.checker.proofs.Headed.{width-leaf, width-struct, width-list, width_is, raw_never}
use Rattle.checker.proofs.head.raw_width.Goals as goal

pub returns-in-Leaf : goal.returns-in-Leaf
returns-in-Leaf c =
    λ v w t R. width-leaf R c.head.ensures.result_value c.in-Leaf.is

pub returns-in-Struct : goal.returns-in-Struct
returns-in-Struct c =
    λ v w t R. width-struct R c.head.ensures.result_value c.in-Struct.is

pub returns-in-List : goal.returns-in-List
returns-in-List c =
    λ v w t R. width-list R c.head.ensures.result_value c.in-List.is

pub returns-in-Array : goal.returns-in-Array
returns-in-Array c =
    λ v w t R. width_is R c.head.ensures.result_value c.in-Array.is

pub returns-in-Refused : goal.returns-in-Refused
returns-in-Refused c =
    λ v w t R. raw_never R c.head.ensures.result_value c.in-Refused.is
