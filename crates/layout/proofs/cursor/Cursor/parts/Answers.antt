-- `layout::cursor::Cursor::parts` meets its contract. Assumes nothing.
use Rattle.layout.proofs.View.{read_leaf, read_struct, read_element_lem, list-labelled, array-labelled, never_headless}
use Rattle.layout.specs.declared.types.Head.{Head}
use Rattle.layout.proofs.cursor.Cursor.parts.Goals as goal

pub returns-in-Leaf : goal.returns-in-Leaf
returns-in-Leaf c =
    read_leaf c.head.ensures.result_value c.head.ensures.head_in c.in-Leaf.is

pub returns-in-Struct : goal.returns-in-Struct
returns-in-Struct c =
    read_struct c.head.ensures.result_value c.in-Struct.is

pub returns-in-Is : goal.returns-in-Is
returns-in-Is c =
    record {
      read = read_element_lem c.head.ensures.result_value (λ b. Head.List b) c.in-List.is c.element_label.ensures.result_value c.element_label.ensures.label_in
          c.in-Is.is;
    }

pub returns-in-Refused-element_label : goal.returns-in-Refused-element_label
returns-in-Refused-element_label c =
    record { read = λ d P. list-labelled P c.head.ensures.result_value c.element_label.ensures.result_value c.in-List.is c.in-Refused-element_label.is }

pub returns-in-Is-element_label : goal.returns-in-Is-element_label
returns-in-Is-element_label c =
    record {
      read = read_element_lem c.head.ensures.result_value (λ b. Head.Array _ b) c.in-Array.is c.element_label-in-Array.ensures.result_value
          c.element_label-in-Array.ensures.label_in c.in-Is-element_label.is;
    }

pub returns-in-Refused-element_label-2 : goal.returns-in-Refused-element_label-2
returns-in-Refused-element_label-2 c =
    record { read = λ d P. array-labelled P c.head.ensures.result_value c.element_label-in-Array.ensures.result_value c.in-Array.is c.in-Refused-element_label-2.is }

pub returns-in-Refused : goal.returns-in-Refused
returns-in-Refused c =
    record { read = λ d P. never_headless P c.head.ensures.result_value c.in-Refused.is }
