-- `index::row::indexed_value` meets its contract: what stands after an entry stands in the row. Assumes nothing.
use Rattle.index.proofs.Rows.{entry_value, entry-within, entry_row, from-entry}
use native.Mathlib.Nat.{div-mul-le_self}
use native.Mathlib.Omega.{arith}
use Rattle.index.proofs.row.indexed_value.Goals as goal

pub bounds-values-j : goal.bounds-values-j
bounds-values-j c =
    entry_value c.requires.indexed_in c.requires.row_in c.args.k c.wide-j.ensures c.if-j-types.true

pub overflow_mul-q : goal.overflow_mul-q
overflow_mul-q c =
    let h = div-mul-le_self c.args.k c.args.row.stride in omega arith

pub overflow_sub-n : goal.overflow_sub-n
overflow_sub-n c =
    entry-within c.requires.indexed_in c.requires.row_in c.args.k c.wide-j.ensures c.if-j-types.true

pub field_at-requires : goal.field_at-requires
field_at-requires c =
    record { row_at = entry_row c.requires.indexed_in c.requires.row_in c.args.k c.wide-j.ensures c.if-j-types.true c.wide.ensures c.wide-then-j-types.ensures; ends = c.requires.ends }

pub returns-then-j-types : goal.returns-then-j-types
returns-then-j-types c =
    λ X. from-entry c.requires.indexed_in X c.args.k c.wide-j.ensures c.if-j-types.true c.wide.ensures c.wide-then-j-types.ensures _ c.field_at.ensures
