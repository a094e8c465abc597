-- `direct::scope::take_column` meets its contract. Assumes nothing.
use Rattle.direct.proofs.Scoping.{scope-columns, scope-element, column-taken, in_element_lem}
use Rattle.direct.proofs.scope.take_column.Goals as goal

pub indexed_column-requires : goal.indexed_column-requires
indexed_column-requires c =
    let T = scope-columns c.requires c.in-Columns.is in record { columns_at = T.columns; indexed = T.indexed; stride_nonzero = T.strides }

pub returns-in-Columns : goal.returns-in-Columns
returns-in-Columns c =
    λ X. let T = scope-columns X c.in-Columns.is in column-taken T c.args.k _ (c.indexed_column.ensures T.columns)
    c.taken_from.ensures

pub returns-in-Element : goal.returns-in-Element
returns-in-Element c =
    λ X. let T = scope-element X c.in-Element.is in in_element_lem T c.args.k (c.take_element.ensures T.type)
