-- Document 02, L3: which column 53 is about.
use Rattle.std.specs.Prelude.{ℕ, ◌+◌, ◌≡◌, true, false}
use Rattle.layout.specs.Tree.{Label, ColumnType, Columns, ccons}
use Rattle.layout.specs.Find.{counterpart}
use Rattle.layout.specs.declared.matching.Matching.{Matching}
use Rattle.matching.specs.Build.{is_absent}

-- "the first incoming column with no target counterpart": among the columns, the first's position being i, it stands at
-- k
pub data FirstExtra (v : Matching) (target : Columns) : Columns → ℕ → ℕ → Type 0 where
  first-here : {l : Label} {t : ColumnType} {cs : Columns} {i : ℕ} → is_absent (counterpart v l target) ≡ true → FirstExtra v target (ccons l t cs) i i
  first-later : {l : Label} {t : ColumnType} {cs : Columns} {i k : ℕ} → is_absent (counterpart v l target) ≡ false → FirstExtra v target cs (i + 1) k
      → FirstExtra v target (ccons l t cs) i k
