-- A table of sibling columns, a layout's or a struct's, in one list: for each column its link and where it begins, then
-- a head for each chain. A label's chain is by its hash, its head leads to the first column of it, and the link of a
-- column to the next one.
use Rattle.std.specs.Prelude.{ℕ, zero, suc, ◌+◌, ◌-◌, ◌*◌, ◌%◌, ◌≤◌, ◌<◌, ◌≡◌, List, length, get_or, eqb}
use Rattle.layout.specs.Bytes.{Bytes}
use Rattle.layout.specs.Tree.{Label, ColumnType, Columns, cnil, ccons}
use Rattle.layout.specs.code.Seen.{label_hash}
use Rattle.layout.specs.code.Stands.{ColumnsAt}
use Rattle.layout.specs.Find.{Lookup, absent, present, find_from}
use Rattle.layout.specs.code.Finding.{match_rule}
use Rattle.layout.specs.declared.edition.Edition.{Edition}
use Rattle.layout.specs.declared.matching.Matching.{Matching}

-- how many columns a table holds at most
abbrev pub most : ℕ
most = 32767

-- where a chain ends
abbrev pub none : ℕ
none = 65535

-- where the link of the column i stands; where it begins stands after it
abbrev pub node : ℕ → ℕ
node i = 2 * i

-- a label's chain, of so many
abbrev pub slot_of : Matching → ℕ → Label → ℕ
slot_of how heads l = label_hash (match_rule how) 0 l % heads

-- the first column of the chain h, where the first of these columns has the position i
abbrev pub first_of : Matching → ℕ → ℕ → ℕ → Columns → Lookup
first_of how heads h = find_from (λ i l. eqb (slot_of how heads l) h)

-- the columns after the first i
unfoldable pub after : ℕ → Columns → Columns
after zero cs = cs
after (suc i) cnil = cnil
after (suc i) (ccons l t cs) = after i cs

-- a number that leads to what was looked up
abbrev pub Leads : ℕ → Lookup → Type 0
Leads x absent = x ≡ none
Leads x (present p l t) = x ≡ node p.0

-- the columns after the first i of cs begin at o
pub record Begins (v : Edition) (d : ℕ) (s : Bytes) (n : ℕ) (cs : Columns) (i o : ℕ) : Type 0 where
  pub rest : ColumnsAt v d s (n - i) o
  pub is : rest.columns ≡ after i cs

-- the numbers between these indexes lead nowhere: each is the one that ends a chain
pub record Cleared (ending from to : ℕ) (table : List ℕ) : Type 0 where
  pub empty : (k : ℕ) → from ≤ k → k < to → get_or table k 0 ≡ ending

-- the first i of the columns cs are noted
pub record Places (v : Edition) (d : ℕ) (s : Bytes) (n i : ℕ) (cs : Columns) (table : List ℕ) : Type 0 where
  pub begins : (j : ℕ) → j < i → Begins v d s n cs j (get_or table (node j + 1) 0)

-- all n columns are noted, and no chain leads anywhere
pub record Noted (v : Edition) (d : ℕ) (s : Bytes) (n from : ℕ) (table : List ℕ) : Type 0 where
  pub cleared : Cleared none (node n) (length table) table
  pub places : (P : ColumnsAt v d s n from) → Places v d s n n P.columns table

-- the columns from i on are in their chains
pub record Chains (how : Matching) (heads n i : ℕ) (cs : Columns) (table : List ℕ) : Type 0 where
  pub first : (h : ℕ) → h < heads → Leads (get_or table (node n + h) 0) (first_of how heads h i (after i cs))
  pub next : (j : ℕ) → i ≤ j → (l : Label) (t : ColumnType) (r : Columns) → after j cs ≡ ccons l t r → Leads (get_or table (node j) 0)
      (first_of how heads (slot_of how heads l) (j + 1) r)

-- all that is left of the list behind the columns' numbers are heads
pub record Table (v : Edition) (how : Matching) (d : ℕ) (s : Bytes) (n from : ℕ) (table : List ℕ) : Type 0 where
  pub few : n ≤ most
  pub long : node n < length table
  pub places : (P : ColumnsAt v d s n from) → Places v d s n n P.columns table
  pub chains : (P : ColumnsAt v d s n from) (heads : ℕ) → node n + heads ≡ length table → Chains how heads n 0 P.columns table
