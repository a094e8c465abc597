-- Two tables in one, both as an earlier pass filled them: where selectors of the plan end, and behind it where every
-- stride-th incoming column stands.
use Rattle.std.specs.Prelude.{ℕ, ◌≤◌, List, length, drop}
use Rattle.layout.specs.Bytes.{Bytes}
use Rattle.layout.specs.declared.edition.Edition.{Edition}
use Rattle.plan.specs.code.Skips.{Skips}
use Rattle.index.specs.code.Indexed.{stride_of, Indexed}

pub record Tables (incoming : Bytes) (v : Edition) (n : ℕ) (plan : Bytes) (tables : List ℕ) : Type 0 where
  pub room : 4608 ≤ length tables
  pub skips : Skips plan tables
  pub columns : Indexed v incoming n 7 (stride_of n) (drop 4608 tables)
