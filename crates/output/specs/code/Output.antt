-- Document 01, "Running", 45: an output that stops where it passes the limit.
use Rattle.std.specs.Prelude.{ℕ, suc, ◌+◌, ◌≤◌, ◌<◌, max, ◌≡◌, Bool, false, leb, length}
use Rattle.layout.specs.Bytes.{Bytes}
use Rattle.layout.specs.Parser.{choose}
use Rattle.store.specs.code.Overlay.{Holds}
use Rattle.values.specs.Value.{Value, vnull, vnumber, vtext, voverflow, vstruct, vlist, varray, Values, vnil, vcons}
use Rattle.values.specs.Record.{longest}
use Rattle.nodes.specs.declared.raw.Parts.{Parts}

-- The bytes b were written from index k on, and r is where they end; or they pass the limit, and so does r.
pub record Emits (out : Bytes) (k : ℕ) (b : Bytes) (r : ℕ) (out' : Bytes) : Type 0 where
  pub fits : k + length b ≤ longest → (r ≡ k + length b) × Holds out k b out'
  pub exceeds : longest < k + length b → longest < r

-- how deep the parts of a value nest
unfoldable mutual
  pub levels : Value → ℕ
  levels vnull = 0
  levels (vnumber k n) = 0
  levels (vtext b) = 0
  levels voverflow = 0
  levels (vstruct vs) = suc (levels_all vs)
  levels (vlist vs) = suc (levels_all vs)
  levels (varray vs) = suc (levels_all vs)

  pub levels_all : Values → ℕ
  levels_all vnil = 0
  levels_all (vcons v vs) = max (levels v) (levels_all vs)

-- there are parts, m of them at least
unfoldable pub has : ℕ → Parts → Bool
has m Parts.None = false
has m (Parts.Some c) = leb m c

-- the count that is known already, or else p
abbrev pub known : Parts → Parts → Parts
known Parts.None p = p
known (Parts.Some c) p = Parts.Some c

-- what is asked of the parts p: none unless there are m of them; else their count, if none is known already
unfoldable pub answer : ℕ → Parts → Parts → Parts
answer m own p = choose (has m p) (known own p) Parts.None
