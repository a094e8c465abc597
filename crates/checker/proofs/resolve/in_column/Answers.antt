-- `checker::resolve::in_column` meets its contract. Assumes nothing.
use Rattle.checker.proofs.Resolving.{column_type}
use Rattle.checker.proofs.Fields.{field_found, field-here, field_never}
use Rattle.checker.proofs.Tabled.{by_stride}
use Rattle.checker.proofs.resolve.in_column.Goals as goal

pub indexed_column-requires : goal.indexed_column-requires
indexed_column-requires c =
    let (t, A) = c.requires.column_along in record {
      columns_at = A.columns;
      indexed = by_stride c.stride_of.ensures.value
          c.requires.indexed;
      stride_nonzero = c.stride_of.ensures.result_nonzero;
    }

pub type_at-requires : goal.type_at-requires
type_at-requires c =
    let (t, A) = c.requires.column_along in record {
      leads_at = (
        t,
        column_type A (field-here (field_found A.columns c.args.k A.found
            (c.indexed_column.ensures A.columns)) c.in-At.is),
      );
      from_le_len = c.requires.from_le_len;
    }

pub returns-in-At : goal.returns-in-At
returns-in-At c =
    λ t A. c.type_at.ensures t (column_type A (field-here
    (field_found A.columns c.args.k A.found
    (c.indexed_column.ensures A.columns)) c.in-At.is))

pub returns-in-Absent : goal.returns-in-Absent
returns-in-Absent c =
    λ t A. field_never (field_found A.columns c.args.k A.found
    (c.indexed_column.ensures A.columns)) c.in-Absent.is
