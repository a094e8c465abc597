-- What stands at an offset of bytes that were read before: what the functions that walk over a layout ask and speak of.
use Rattle.std.specs.Prelude.{ℕ, ◌≡◌, []}
use Rattle.layout.specs.Bytes.{Bytes}
use Rattle.layout.specs.Parser.{Res, ok}
use Rattle.layout.specs.Tree.{ColumnType, Columns, Layout}
use Rattle.layout.specs.Layout.{type, columns as columns_of_of, deepest, layout}
use Rattle.layout.specs.declared.edition.Edition.{Edition}
use Rattle.layout.specs.declared.columns.Siblings.TheVariants.{Free}

-- a type of at most d levels
pub record TypeAt (v : Edition) (d : ℕ) (s : Bytes) (at : ℕ) : Type 0 where
  pub tree : ColumnType
  pub end : ℕ
  pub reads : type v Free d s at ≡ ok tree end

-- n columns whose types have at most d levels
pub record ColumnsAt (v : Edition) (d : ℕ) (s : Bytes) (n at : ℕ) : Type 0 where
  pub columns : Columns
  pub end : ℕ
  pub reads : columns_of_of v Free (type v Free d) n [] s at ≡ ok columns end

-- the bytes are a layout of n columns, which begin after the mark, the version and the count
pub record LayoutAt (s : Bytes) (v : Edition) (n : ℕ) : Type 0 where
  pub columns : ColumnsAt v deepest s n 7
  pub reads : layout s ≡ ok (record { edition = v; columns = columns.columns }) columns.end
