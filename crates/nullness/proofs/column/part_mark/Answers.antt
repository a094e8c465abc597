-- `nullness::column::part_mark` meets its contract: a law for each head. Assumes nothing.
use Rattle.nullness.proofs.Marking.{leaf_part_lem, field-part, absent-part, list_part_lem, array_part_lem}
use Rattle.layout.proofs.View.{struct_at, list-labelled, array-labelled, never_headless}
use Rattle.nullness.proofs.column.part_mark.Goals as goal

pub column_at-requires : goal.column_at-requires
column_at-requires c =
    (struct_at c.requires c.head.ensures.result_value c.in-Struct.is).inner

pub returns-in-Leaf : goal.returns-in-Leaf
returns-in-Leaf c =
    λ P. leaf_part_lem P _ c.head.ensures.result_value c.in-Leaf.is

pub returns-in-At : goal.returns-in-At
returns-in-At c =
    λ P. field-part P _ c.head.ensures.result_value c.in-Struct.is c.column_at.ensures c.in-At.is

pub returns-in-Absent : goal.returns-in-Absent
returns-in-Absent c =
    λ P. absent-part P _ c.head.ensures.result_value c.in-Struct.is c.column_at.ensures c.in-Absent.is

pub returns-in-Is : goal.returns-in-Is
returns-in-Is c =
    λ P. list_part_lem P _ c.head.ensures.result_value c.element_label.ensures.result_value c.in-Is.is c.element_mark.ensures c.in-List.is

pub returns-in-Refused-element_label : goal.returns-in-Refused-element_label
returns-in-Refused-element_label c =
    λ P. list-labelled P c.head.ensures.result_value c.element_label.ensures.result_value c.in-List.is c.in-Refused-element_label.is

pub returns-in-Is-element_label : goal.returns-in-Is-element_label
returns-in-Is-element_label c =
    λ P. array_part_lem P _ c.head.ensures.result_value c.element_label-in-Array.ensures.result_value c.in-Is-element_label.is c.element_mark-in-Is-element_label.ensures c.in-Array.is

pub returns-in-Refused-element_label-2 : goal.returns-in-Refused-element_label-2
returns-in-Refused-element_label-2 c =
    λ P. array-labelled P c.head.ensures.result_value c.element_label-in-Array.ensures.result_value c.in-Array.is c.in-Refused-element_label-2.is

pub returns-in-Refused : goal.returns-in-Refused
returns-in-Refused c =
    λ P. never_headless P c.head.ensures.result_value c.in-Refused.is
