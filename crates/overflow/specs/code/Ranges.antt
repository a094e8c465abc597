-- The columns of a layout, and a record beside them.
use Rattle.layout.specs.Bytes.{Bytes}
use Rattle.layout.specs.Limits.{deepest}
use Rattle.layout.specs.code.Stands.{ColumnsAt}
use Rattle.nodes.specs.code.Raw.{RowAt}
use Rattle.layout.specs.declared.columns.ColumnRange.{ColumnRange}

abbrev pub ColumnsIn : Bytes → ColumnRange → Type 0
ColumnsIn lay columns = ColumnsAt columns.edition deepest lay columns.count columns.first.at

-- from a record's start on a value for each
abbrev pub RecordAt : Bytes → ColumnRange → Bytes → Type 0
RecordAt lay columns rec = RowAt columns.edition lay columns.count columns.first.at rec 0
