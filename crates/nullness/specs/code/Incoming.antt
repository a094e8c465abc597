-- A table of where the columns of an incoming layout stand.
use Rattle.std.specs.Prelude.{ℕ, List}
use Rattle.layout.specs.Bytes.{Bytes}
use Rattle.layout.specs.declared.columns.ColumnRange.{ColumnRange}
use Rattle.index.specs.code.Indexed.{stride_of, Indexed}

abbrev pub IndexAt : Bytes → ColumnRange → List ℕ → Type 0
IndexAt incoming columns index = Indexed columns.edition incoming columns.count columns.first.at (stride_of columns.count) index
