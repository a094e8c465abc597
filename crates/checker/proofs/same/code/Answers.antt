-- `checker::same::code` meets its contract. Assumes nothing.
use Rattle.checker.specs.declared.place.TypeHead.{TypeHead}
use Rattle.checker.specs.code.Same.{code_of}
use Rattle.checker.specs.code.TypesAt.{head_kind}
use mathlib.Core.Path.{sym, ap}
use Rattle.checker.proofs.same.code.Goals as goal

pub returns-in-Leaf : goal.returns-in-Leaf
returns-in-Leaf c =
    λ i p. ap (λ (h : TypeHead). code_of (head_kind i p h)) (sym c.in-Leaf.is)

pub returns-in-Struct : goal.returns-in-Struct
returns-in-Struct c =
    λ i p. ap (λ (h : TypeHead). code_of (head_kind i p h)) (sym c.in-Struct.is)

pub returns-in-List : goal.returns-in-List
returns-in-List c =
    λ i p. ap (λ (h : TypeHead). code_of (head_kind i p h)) (sym c.in-List.is)

pub returns-in-Array : goal.returns-in-Array
returns-in-Array c =
    λ i p. ap (λ (h : TypeHead). code_of (head_kind i p h)) (sym c.in-Array.is)
