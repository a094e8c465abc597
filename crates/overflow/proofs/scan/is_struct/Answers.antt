-- `overflow::scan::is_struct` meets its contract: by what the type begins with. Assumes nothing.
use Rattle.overflow.proofs.Raw.{leaf-value, struct-value, a_list_lem, an_array_lem, struct_is, list-not, array-not}
use Rattle.layout.proofs.View.{never_headless}
use mathlib.Core.Path.{sym}
use Rattle.overflow.proofs.scan.is_struct.Goals as goal

pub returns-in-Leaf : goal.returns-in-Leaf
returns-in-Leaf c =
    λ X. sym (leaf-value X c.head.ensures.result_value c.in-Leaf.is).parts

pub returns-in-Struct : goal.returns-in-Struct
returns-in-Struct c =
    λ X. struct_is (struct-value X c.head.ensures.result_value c.in-Struct.is).is

pub returns-in-List : goal.returns-in-List
returns-in-List c =
    λ X. list-not (a_list_lem X c.head.ensures.result_value c.in-List.is).is

pub returns-in-Array : goal.returns-in-Array
returns-in-Array c =
    λ X. array-not (an_array_lem X c.head.ensures.result_value c.in-Array.is).is

pub returns-in-Refused : goal.returns-in-Refused
returns-in-Refused c =
    λ X. never_headless X.type c.head.ensures.result_value c.in-Refused.is
