-- `checker::same::target_code` meets its contract. Assumes nothing.
use Rattle.direct.proofs.Casting.{kind_of_lem}
use Rattle.checker.specs.code.Same.{code_of}
use Rattle.layout.proofs.View.{never_headless}
use mathlib.Core.Path.{refl, ap}
use Rattle.checker.proofs.same.target_code.Goals as goal

pub returns-in-Leaf : goal.returns-in-Leaf
returns-in-Leaf c =
    λ v d Q. ap code_of (kind_of_lem Q c.head.ensures.result_value c.in-Leaf.is refl)

pub returns-in-Struct : goal.returns-in-Struct
returns-in-Struct c =
    λ v d Q. ap code_of (kind_of_lem Q c.head.ensures.result_value c.in-Struct.is refl)

pub returns-in-List : goal.returns-in-List
returns-in-List c =
    λ v d Q. ap code_of (kind_of_lem Q c.head.ensures.result_value c.in-List.is refl)

pub returns-in-Array : goal.returns-in-Array
returns-in-Array c =
    λ v d Q. ap code_of (kind_of_lem Q c.head.ensures.result_value c.in-Array.is refl)

pub returns-in-Refused : goal.returns-in-Refused
returns-in-Refused c =
    λ v d Q. never_headless Q c.head.ensures.result_value c.in-Refused.is
