-- `checker::head::raw_head` meets its contract. Assumes nothing.
use Rattle.checker.proofs.Headed.{raw-leaf, raw-struct, raw-list, raw_array, raw_never}
use Rattle.checker.proofs.head.raw_head.Goals as goal

pub returns-in-Leaf : goal.returns-in-Leaf
returns-in-Leaf c =
    λ i p v t b R. raw-leaf R c.head.ensures.result_value b c.head.ensures.head_in c.in-Leaf.is

pub returns-in-Struct : goal.returns-in-Struct
returns-in-Struct c =
    λ i p v t b R. raw-struct R c.head.ensures.result_value c.in-Struct.is

pub returns-in-List : goal.returns-in-List
returns-in-List c =
    λ i p v t b R. raw-list R c.head.ensures.result_value c.in-List.is

pub returns-in-Array : goal.returns-in-Array
returns-in-Array c =
    λ i p v t b R. raw_array R c.head.ensures.result_value c.in-Array.is

pub returns-in-Refused : goal.returns-in-Refused
returns-in-Refused c =
    λ i p v t b R. raw_never R c.head.ensures.result_value c.in-Refused.is
