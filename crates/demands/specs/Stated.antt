-- The words of demand 3, over bytes and in the terms of the exported calls' contracts.
use Rattle.std.specs.Prelude.{ℕ, ◌≡◌, true, false, List, [], ◌∷◌, ◌↔◌, ◌⊎◌}
use Rattle.layout.specs.Bytes.{Bytes}
use Rattle.layout.specs.Parser.{ok}
use Rattle.layout.specs.Tree.{Layout, Columns}
use Rattle.layout.specs.Layout.{layout}
use Rattle.layout.specs.declared.matching.Matching.{Matching}
use Rattle.layout.specs.declared.matching.Matching.TheVariants.{ByNumber}
use Rattle.rules.specs.declared.policy.Policy.{Policy}
use Rattle.rules.specs.declared.policy.ExtraColumnsPolicy.TheVariants.{Raise}
use Rattle.values.specs.Value.{Values}
use Rattle.values.specs.Encode.{encode_values}
use Rattle.values.specs.Filled.{required_of}
use Rattle.values.specs.Record.{record_marked}
use Rattle.plan.specs.Result.{accepted, refused_at}
use Rattle.plan.specs.Selector.{Selectors}
use Rattle.plan.specs.Encode.{encode_plan}
use Rattle.plan.specs.Read.{plan}
use Rattle.plan.specs.Run.{evals, spacious}
use Rattle.plan.specs.Reach.{ReachesOverflow}
use Rattle.plan.specs.Calls.{run_plan}
use Rattle.defaults.specs.Table.{Entry, OwnedEntry, entries_of, TableTree, table}
use Rattle.defaults.specs.Lookup.{get_default_value}
use Rattle.matching.specs.Default.{Defaults}
use Rattle.matching.specs.Build.{build}
use Rattle.matching.specs.Extra.{FirstExtra}
use Rattle.matching.specs.Calls.{ReadFor, room_for}

-- `FitsLayout lay rec`: rec is "a record that fits" the layout lay: reading it meets none of 40 to 43, no 52 (L1) and
-- no 56 (L5)
pub record FitsLayout (lay rec : Bytes) : Type 0 where
  pub read : Layout
  pub layout_end : ℕ
  pub layout_reads : layout lay ≡ ok read layout_end
  pub values : Values
  pub end : ℕ
  pub reads : record_marked required_of read.columns rec ≡ ok values end

-- the selectors that a plan's bytes are
pub record SelectorsOf (bytes : Bytes) : Type 0 where
  pub selectors : Selectors
  pub end : ℕ
  pub reads : plan bytes ≡ ok selectors end

-- a layout that reads
pub record LayoutOf (lay : Bytes) : Type 0 where
  pub read : Layout
  pub end : ℕ
  pub reads : layout lay ≡ ok read end

-- the columns of a layout that was read
abbrev pub columns_of_of : {lay rec : Bytes} → FitsLayout lay rec → Columns
columns_of_of F = F.read.columns

-- ---- a run of what passed the check

-- the bytes of the values that a plan's selectors give over a record's values
abbrev pub output : Values → Selectors → Bytes
output ρ ss = encode_values (evals ρ ss)

-- 44 exactly where an overflow is reached; else, where there is space, a record that fits the target; else 45; and
-- nothing else
pub record Running (incoming target bytes rec : Bytes) (F : FitsLayout incoming rec) (room : ℕ) : Type 0 where
  pub plan : SelectorsOf bytes
  pub overflow : (run_plan incoming target bytes rec room ≡ refused_at 44 0) ↔ ReachesOverflow F.values plan.selectors
  pub writes : (ReachesOverflow F.values plan.selectors → ⊥) → spacious room (output F.values plan.selectors) ≡ true
      → (run_plan incoming target bytes rec room ≡ accepted (output F.values plan.selectors)) × FitsLayout target (output F.values plan.selectors)
  pub exceeds : (ReachesOverflow F.values plan.selectors → ⊥) → spacious room (output F.values plan.selectors) ≡ false
      → run_plan incoming target bytes rec room ≡ refused_at 45 0
  pub only : (run_plan incoming target bytes rec room ≡ refused_at 44 0)
      ⊎ ((run_plan incoming target bytes rec room ≡ refused_at 45 0) ⊎ ((b : Bytes) × (run_plan incoming target bytes rec room ≡ accepted b) × FitsLayout
      target b))

-- ---- a plan that is too long

-- the plan that the definitions give, before its length is looked at
pub record Defined (v : Matching) (p : Policy) (d : Defaults) (incoming target : Bytes) : Type 0 where
  pub from : Columns
  pub to : Columns
  pub incoming_read : ReadFor v incoming from
  pub target_read : ReadFor v target to
  pub selectors : Selectors
  pub built : build v p d from to ≡ accepted selectors

-- there is no room for the plan
pub record PlanTooLong (v : Matching) (p : Policy) (d : Defaults) (incoming target : Bytes) (space : ℕ) : Type 0 where
  pub defined : Defined v p d incoming target
  pub long : room_for space (encode_plan defined.selectors) ≡ false

-- by number, with the owner's entries of the table that was read
pub record NumberTooLong (p : Policy) (index owner : ℕ) (incoming target defaults : Bytes) (space : ℕ) : Type 0 where
  pub tree : TableTree
  pub end : ℕ
  pub reads : table defaults ≡ ok tree end
  pub plan : PlanTooLong ByNumber p (get_default_value (entries_of owner tree.entries) index) incoming target space

-- ---- an extra column (document 02, L3)

-- under Raise; the first incoming column with no target counterpart has the position k
pub record ExtraColumn (v : Matching) (p : Policy) (incoming target : Bytes) (k : ℕ) : Type 0 where
  pub from : Columns
  pub to : Columns
  pub incoming_read : ReadFor v incoming from
  pub target_read : ReadFor v target to
  pub raises : p.extra_columns ≡ Raise
  pub first : FirstExtra v to from 0 k

-- by number, with the table that was read
pub record NumberExtraColumn (p : Policy) (incoming target defaults : Bytes) (k : ℕ) : Type 0 where
  pub tree : TableTree
  pub end : ℕ
  pub reads : table defaults ≡ ok tree end
  pub column : ExtraColumn ByNumber p incoming target k

-- ---- document 02, L7: two tables and one owner

-- "two accepted tables, of either version, that have the same entries of one owner (owner bytes aside) in the same
-- order"
pub record SameEntries (owner : ℕ) (left right : Bytes) : Type 0 where
  pub tree : TableTree
  pub end : ℕ
  pub reads : table left ≡ ok tree end
  pub other : TableTree
  pub other_end : ℕ
  pub other_reads : table right ≡ ok other other_end
  pub same : entries_of owner tree.entries ≡ entries_of owner other.entries

-- a table's entries, owners aside
unfoldable pub bare : List OwnedEntry → List Entry
bare [] = []
bare (e ∷ es) = e.entry ∷ bare es
