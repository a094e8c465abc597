-- `nodes::raw::present_parts` meets its contract: a law for each head. Assumes nothing.
use mathlib.Core.Path.{sym}
use Rattle.layout.proofs.View.{leaf_at_lem, struct_at, never_headless}
use Rattle.nodes.proofs.Node.{leaf-none, struct_row, list-parts, list_unparted, array_parts}
use Rattle.nodes.proofs.raw.present_parts.Goals as goal

pub returns-in-Leaf : goal.returns-in-Leaf
returns-in-Leaf c =
    λ X. sym (leaf-none X (leaf_at_lem X.type c.head.ensures.result_value c.in-Leaf.is).0).parts

pub returns-in-Struct : goal.returns-in-Struct
returns-in-Struct c =
    λ X. sym (struct_row X (struct_at X.type c.head.ensures.result_value c.in-Struct.is)).parts

pub returns-in-Is : goal.returns-in-Is
returns-in-Is c =
    λ X. list-parts X c.head.ensures.result_value c.in-List.is c.short.ensures c.in-Is.is

pub returns-in-Refused-short : goal.returns-in-Refused-short
returns-in-Refused-short c =
    λ X. list_unparted X c.head.ensures.result_value c.in-List.is c.short.ensures c.in-Refused-short.is

pub returns-in-Array : goal.returns-in-Array
returns-in-Array c =
    λ X. array_parts X c.head.ensures.result_value c.in-Array.is

pub returns-in-Refused : goal.returns-in-Refused
returns-in-Refused c =
    λ X. never_headless X.type c.head.ensures.result_value c.in-Refused.is
