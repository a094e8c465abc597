-- `checker::name::column_name` meets its contract. Assumes nothing.
use Rattle.checker.proofs.Naming.{column_name-is, column_name-absent}
use Rattle.checker.proofs.Tabled.{by_stride}
use Rattle.checker.proofs.name.column_name.Goals as goal

pub indexed_column-requires : goal.indexed_column-requires
indexed_column-requires c =
    let (a, C) = c.requires.column_of in record {
      columns_at = C.columns;
      indexed = by_stride c.stride_of.ensures.value
          c.requires.indexed;
      stride_nonzero = c.stride_of.ensures.result_nonzero;
    }

pub returns-in-At : goal.returns-in-At
returns-in-At c =
    λ p a C. column_name-is C c.indexed_column.ensures c.in-At.is c.named.ensures

pub returns-in-Absent : goal.returns-in-Absent
returns-in-Absent c =
    λ p a C. column_name-absent C c.indexed_column.ensures c.in-Absent.is
