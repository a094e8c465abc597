-- `nodes::types::type_part` meets its contract: a law for each head. Assumes nothing.
use Rattle.nodes.proofs.Leading.{leads-leaf, leads-field, leads-absent, leads-list, leads-array}
use Rattle.layout.proofs.View.{struct-opened, never_opened}
use Rattle.nodes.proofs.types.type_part.Goals as goal

pub column_at-requires : goal.column_at-requires
column_at-requires c =
    (struct-opened c.parts.ensures c.requires c.in-Struct.is).inner

pub returns-in-Leaf : goal.returns-in-Leaf
returns-in-Leaf c =
    λ p u L. leads-leaf _ _ _ _ _ _ L c.parts.ensures c.in-Leaf.is

pub returns-in-At : goal.returns-in-At
returns-in-At c =
    λ p u L. leads-field _ _ _ _ _ _ L c.parts.ensures c.in-Struct.is c.column_at.ensures c.in-At.is

pub returns-in-Absent : goal.returns-in-Absent
returns-in-Absent c =
    λ p u L. leads-absent _ _ _ _ _ _ L c.parts.ensures c.in-Struct.is c.column_at.ensures c.in-Absent.is

pub returns-in-List : goal.returns-in-List
returns-in-List c =
    λ p u L. leads-list _ _ _ _ _ _ L c.parts.ensures c.in-List.is

pub returns-in-Array : goal.returns-in-Array
returns-in-Array c =
    λ p u L. leads-array _ _ _ _ _ _ L c.parts.ensures c.in-Array.is

pub returns-in-Refused : goal.returns-in-Refused
returns-in-Refused c =
    λ p u L. never_opened c.parts.ensures L.type c.in-Refused.is
