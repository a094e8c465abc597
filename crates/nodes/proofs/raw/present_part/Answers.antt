-- `nodes::raw::present_part` meets its contract: a law for each head. Assumes nothing.
use Rattle.nodes.proofs.Node.{nowhere, node_as, part_as, leaf-none, struct_row, list-within, array-elements}
use mathlib.Core.Path.{sym}
use Rattle.layout.proofs.View.{leaf-opened, struct-opened, list-opened, array-opened, never_opened}
use Rattle.nodes.proofs.raw.present_part.Goals as goal

pub field_at-requires : goal.field_at-requires
field_at-requires c =
    record { row_at = (struct_row c.requires.present_at (struct-opened c.parts.ensures c.requires.present_at.type c.in-Struct.is)).row; ends = c.requires.ends }

pub list_element-requires : goal.list_element-requires
list_element-requires c =
    record { list_of = (list-within c.requires.present_at (list-opened c.parts.ensures c.requires.present_at.type c.in-List.is)).inner; ends = c.requires.ends }

pub element_at-requires : goal.element_at-requires
element_at-requires c =
    record { elements_at = (array-elements c.requires.present_at (array-opened c.parts.ensures c.requires.present_at.type c.in-Array.is)).elements; ends = c.requires.ends }

pub returns-in-Leaf : goal.returns-in-Leaf
returns-in-Leaf c =
    λ X. nowhere ((leaf-none X (leaf-opened c.parts.ensures X.type c.in-Leaf.is).0).part _)

pub returns-in-Struct : goal.returns-in-Struct
returns-in-Struct c =
    λ X.
    let S = struct_row X (struct-opened c.parts.ensures X.type c.in-Struct.is) in
    node_as (sym (S.part _)) (c.field_at.ensures S.row)

pub returns-in-List : goal.returns-in-List
returns-in-List c =
    λ X.
    let L = list-within X (list-opened c.parts.ensures X.type c.in-List.is) in
    part_as c.args.k L.is (c.list_element.ensures L.inner)

pub returns-in-Array : goal.returns-in-Array
returns-in-Array c =
    λ X.
    let A = array-elements X (array-opened c.parts.ensures X.type c.in-Array.is) in
    node_as (sym (A.part _)) (c.element_at.ensures A.elements)

pub returns-in-Refused : goal.returns-in-Refused
returns-in-Refused c =
    λ X. never_opened c.parts.ensures X.type c.in-Refused.is
