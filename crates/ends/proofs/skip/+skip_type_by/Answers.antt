-- The proof of the cycle of calls {skip_type_by}. The measure is the levels left. Assumes nothing.
use Rattle.ends.proofs.Entries.{found-is}
use Rattle.layout.proofs.View.{deep, leaf_at_lem, list_at, array_at, list-labelled, array-labelled, never_headless}
use native.Mathlib.Omega.{arith}
use mathlib.Core.Path.{◌∙◌}
use Rattle.ends.proofs.skip.+skip_type_by.Goals as goal

pub returns-in-At : goal.returns-in-At
returns-in-At t c =
    λ P. found-is _ _ _ _ (c.plain_end.ensures _ _ P) c.in-At.is P

pub overflow_sub-depth : goal.overflow_sub-depth
overflow_sub-depth t c =
    let z = deep c.requires.type_at in omega arith

pub skip_type_by-requires : goal.skip_type_by-requires
skip_type_by-requires t c =
    let z = deep c.requires.type_at in (
      omega (arith, c.decreases),
      (
        (list_at c.requires.type_at
            c.head.ensures.result_value c.element_label.ensures.result_value
            c.in-List.is c.in-Is.is).inner,
        c.requires.ends,
      ),
    )

pub overflow_sub-depth-in-Is-element_label : goal.overflow_sub-depth-in-Is-element_label
overflow_sub-depth-in-Is-element_label t c =
    let z = deep c.requires.type_at in omega arith

pub skip_type_by-requires-in-Is-element_label : goal.skip_type_by-requires-in-Is-element_label
skip_type_by-requires-in-Is-element_label t c =
    let z = deep c.requires.type_at in (
      omega (arith, c.decreases),
      (
        (array_at c.requires.type_at
            c.head.ensures.result_value c.element_label-in-Array.ensures.result_value
            c.in-Array.is c.in-Is-element_label.is).inner,
        c.requires.ends,
      ),
    )

pub returns-in-Leaf : goal.returns-in-Leaf
returns-in-Leaf t c =
    λ P. (leaf_at_lem P c.head.ensures.result_value c.in-Leaf.is).1

pub returns-in-Struct : goal.returns-in-Struct
returns-in-Struct t c =
    c.skip_struct.ensures

pub returns-in-Is : goal.returns-in-Is
returns-in-Is t c =
    λ P.
    let L = list_at P c.head.ensures.result_value c.element_label.ensures.result_value c.in-List.is c.in-Is.is in
    c.skip_type_by.ensures L.inner ∙ L.ends

pub returns-in-Refused-element_label : goal.returns-in-Refused-element_label
returns-in-Refused-element_label t c =
    λ P. list-labelled P c.head.ensures.result_value c.element_label.ensures.result_value c.in-List.is c.in-Refused-element_label.is

pub returns-in-Is-element_label : goal.returns-in-Is-element_label
returns-in-Is-element_label t c =
    λ P.
    let L = array_at P c.head.ensures.result_value c.element_label-in-Array.ensures.result_value c.in-Array.is c.in-Is-element_label.is in
    c.skip_type_by-in-Is-element_label.ensures L.inner ∙ L.ends

pub returns-in-Refused-element_label-2 : goal.returns-in-Refused-element_label-2
returns-in-Refused-element_label-2 t c =
    λ P. array-labelled P c.head.ensures.result_value c.element_label-in-Array.ensures.result_value c.in-Array.is c.in-Refused-element_label-2.is

pub returns-in-Refused : goal.returns-in-Refused
returns-in-Refused t c =
    λ P. never_headless P c.head.ensures.result_value c.in-Refused.is
