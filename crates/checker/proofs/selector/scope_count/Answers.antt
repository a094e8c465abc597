-- `checker::selector::scope_count` meets its contract. Assumes nothing.
use Rattle.checker.proofs.Checks.{scope-top, scope_parts}
use native.Mathlib.Omega.{arith}
use Rattle.checker.proofs.selector.scope_count.Goals as goal

pub returns-then-w-eq0 : goal.returns-then-w-eq0
returns-then-w-eq0 c =
    λ Δ S. scope-top S c.if-w-eq0.true

pub enclosing-r-requires : goal.enclosing-r-requires
enclosing-r-requires c =
    record { tables = c.requires.tables; scoped_at = c.requires.scoped_at; deep_nonzero = omega (arith, c.if-w-eq0.false) }

pub type_head-requires : goal.type_head-requires
type_head-requires c =
    let (Δ, S) = c.requires.scoped_at in let E = c.enclosing-r.ensures Δ S in record { tables = c.requires.tables; resolved_at = (E.type, E.resolved) }

pub returns-in-Leaf : goal.returns-in-Leaf
returns-in-Leaf c =
    λ Δ S. scope_parts (c.enclosing-r.ensures Δ S) c.type_head.ensures c.in-Leaf.is

pub returns-in-Struct : goal.returns-in-Struct
returns-in-Struct c =
    λ Δ S. scope_parts (c.enclosing-r.ensures Δ S) c.type_head.ensures c.in-Struct.is

pub returns-in-List : goal.returns-in-List
returns-in-List c =
    λ Δ S. scope_parts (c.enclosing-r.ensures Δ S) c.type_head.ensures c.in-List.is

pub returns-in-Array : goal.returns-in-Array
returns-in-Array c =
    λ Δ S. scope_parts (c.enclosing-r.ensures Δ S) c.type_head.ensures c.in-Array.is
