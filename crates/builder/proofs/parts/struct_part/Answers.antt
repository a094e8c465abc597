-- `builder::parts::struct_part` meets its contract. Assumes nothing.
use mathlib.Core.Path.{refl, sym, ap, ◌∙◌}
use Rattle.layout.specs.code.Answers.{head_res}
use Rattle.layout.proofs.View.{never_headless}
use Rattle.builder.proofs.Matching.{struct_mismatch, struct-taken}
use Rattle.builder.proofs.parts.struct_part.Goals as goal

pub returns-in-Leaf : goal.returns-in-Leaf
returns-in-Leaf c =
    λ v d P. struct_mismatch P _ (sym c.head.ensures.result_value ∙ ap (head_res _) c.in-Leaf.is) refl

pub returns-in-Struct : goal.returns-in-Struct
returns-in-Struct c =
    λ v d P. struct-taken P c.head.ensures.result_value c.in-Struct.is

pub returns-in-List : goal.returns-in-List
returns-in-List c =
    λ v d P. struct_mismatch P _ (sym c.head.ensures.result_value ∙ ap (head_res _) c.in-List.is) refl

pub returns-in-Array : goal.returns-in-Array
returns-in-Array c =
    λ v d P. struct_mismatch P _ (sym c.head.ensures.result_value ∙ ap (head_res _) c.in-Array.is) refl

pub returns-in-Refused : goal.returns-in-Refused
returns-in-Refused c =
    λ v d P. never_headless P c.head.ensures.result_value c.in-Refused.is
