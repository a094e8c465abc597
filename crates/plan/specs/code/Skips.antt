-- A table of where a plan's constants and selectors end: what its entries say. Entries 2 i and 2 i + 1 are the offset
-- behind the code of a constant, and how many bytes follow it there. Entries 2304 + 3 i and the two behind it are an
-- offset, a number of selectors and where so many that begin at that offset end.
use Rattle.std.specs.Prelude.{ℕ, ◌+◌, ◌*◌, ◌≤◌, ◌<◌, ◌≡◌, List, get_or}
use Rattle.layout.specs.Bytes.{Bytes}
use Rattle.layout.specs.code.Answers.{moved_of}
use Rattle.layout.specs.declared.cursor.Moved.{Moved}
use Rattle.plan.specs.Read.{constant_rest, selector, selectors, deepest_selector}
use Rattle.plan.specs.declared.skips.Skip.{Skip}
use Rattle.plan.specs.declared.skips.Since.{Since}

-- the name, the type and the value that begin at an offset end at e
pub record RestEnds (s : Bytes) (at e : ℕ) : Type 0 where
  pub reads : moved_of (constant_rest s at) ≡ Moved.To (record { at = e })

-- n selectors of at most d levels that begin at an offset end at `to`
pub record PassTo (d : ℕ) (s : Bytes) (from n to : ℕ) : Type 0 where
  pub reads : moved_of (selectors (selector d) n s from) ≡ Moved.To (record { at = to })

-- every entry is true, of the first 512 pairs and of the first 767 behind them
pub record Skips (s : Bytes) (skips : List ℕ) : Type 0 where
  pub constants : (i : ℕ) → i < 512 → (get_or skips (2 * i + 1) 0 ≡ 0 → ⊥) → RestEnds s (get_or skips (2 * i) 0)
      (get_or skips (2 * i) 0 + get_or skips (2 * i + 1) 0)
  pub right : (i : ℕ) → i < 767 → (get_or skips (2305 + 3 * i) 0 ≡ 0 → ⊥) → PassTo deepest_selector s (get_or skips (2304 + 3 * i) 0)
      (get_or skips (2305 + 3 * i) 0) (get_or skips (2306 + 3 * i) 0)

-- what is found is true: at most so many selectors
pub record SkipIs (s : Bytes) (at most : ℕ) (r : Skip) : Type 0 where
  pub few : r.count ≤ most
  pub right : (r.count ≡ 0 → ⊥) → PassTo deepest_selector s at r.count r.to

-- the selectors since some offset end here
abbrev pub SinceIs : ℕ → Bytes → Since → ℕ → Type 0
SinceIs d s r at = PassTo d s r.from.at r.count at
