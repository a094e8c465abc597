-- Document 01, "Plans, check and run": selectors as trees, with the names of source 002 (`ColumnSelector`) and source
-- 001 (`ColumnTransform`). antt has no nested recursion, so lists of selectors are a data type of their own.
use Rattle.std.specs.Prelude.{ℕ, suc, max}
use Rattle.layout.specs.Bytes.{Bytes}
use Rattle.layout.specs.Tree.{DataType}
use Rattle.layout.specs.declared.columns.Position.{Position}
use Rattle.rules.specs.declared.outcome.CastOption.{CastOption}
use Rattle.values.specs.Value.{Value}

-- A position and a constant stand alone; the others transform their input selector. A mapping of a struct has a
-- selector for each field of its result, over the fields of its input; a mapping of a list or an array has one, over
-- the element.
mutual
  pub data Selector : Type 0 where
    position : Position → Selector
    constant : Bytes → DataType → Value → Selector
    cast : Selector → DataType → CastOption → Selector
    rename : Selector → Bytes → Selector
    struct_mapping : Selector → Selectors → Selector
    list_mapping : Selector → Selector → Selector
    array_mapping : Selector → Selector → Selector

  -- selectors, and a plan
  pub data Selectors : Type 0 where
    snil : Selectors
    scons : Selector → Selectors → Selectors

unfoldable pub count_selectors : Selectors → ℕ
count_selectors snil = 0
count_selectors (scons s ss) = suc (count_selectors ss)

-- "a top one is 1, its input and field selectors one more"
unfoldable mutual
  pub nesting : Selector → ℕ
  nesting (position k) = 1
  nesting (constant n t v) = 1
  nesting (cast s t o) = suc (nesting s)
  nesting (rename s n) = suc (nesting s)
  nesting (struct_mapping s ss) = suc (max (nesting s) (nesting_all ss))
  nesting (list_mapping s e) = suc (max (nesting s) (nesting e))
  nesting (array_mapping s e) = suc (max (nesting s) (nesting e))

  pub nesting_all : Selectors → ℕ
  nesting_all snil = 0
  nesting_all (scons s ss) = max (nesting s) (nesting_all ss)
