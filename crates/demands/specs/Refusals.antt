-- Document 01, "Every operation's refusals": the numbers with which each exported call can refuse, and the place of
-- each.
use Rattle.std.specs.Prelude.{ℕ, zero, suc, ◌+◌, ◌<◌, ◌≡◌, Bool, true, false, ◌||◌, List, [], ◌∷◌, ◌++◌, eqb}
use Rattle.layout.specs.Bytes.{Bytes}
use Rattle.layout.specs.Parser.{Res, refuse, ok, choose}
use Rattle.layout.specs.Tree.{Layout, count_columns}
use Rattle.layout.specs.Layout.{layout}
use Rattle.layout.specs.declared.matching.Matching.{Matching}
use Rattle.layout.specs.declared.matching.Matching.TheVariants.{ByName, ByNumber}
use Rattle.plan.specs.Result.{Answer, accepted}
use Rattle.plan.specs.Selector.{Selectors, count_selectors}
use Rattle.plan.specs.Read.{plan}
use Rattle.plan.specs.Calls.{read_at_of}
use Rattle.defaults.specs.Table.{table}

-- whether a number stands in a list
unfoldable pub is_in : ℕ → List ℕ → Bool
is_in n [] = false
is_in n (m ∷ ms) = eqb n m || is_in n ms

-- ---- the numbers

-- "Reading a layout"; L1: "50 when a layout's precision or scale is outside these limits"
abbrev pub layout_refusals : List ℕ
layout_refusals = 1 ∷ 2 ∷ 3 ∷ 4 ∷ 5 ∷ 6 ∷ 50 ∷ []

-- "the defaults are read (1 to 6, ..)"; L1: "In a defaults table the faults of 50 and 52 are 3"
abbrev pub table_refusals : List ℕ
table_refusals = 1 ∷ 2 ∷ 3 ∷ 4 ∷ 5 ∷ 6 ∷ []

-- "Leaf pairs"; L1: "51 when the widening flag is off"
abbrev pub pair_refusals : List ℕ
pair_refusals = 15 ∷ 16 ∷ 17 ∷ 18 ∷ 19 ∷ 20 ∷ 21 ∷ 22 ∷ 23 ∷ 24 ∷ 51 ∷ []

-- a target column: by name "11 .. or 12 to 24", by number "11, 13 to 26, 28"; 54 and 55 (L5) by number alone, since
-- version 1 has no required field
abbrev pub column_refusals : Matching → List ℕ
column_refusals ByName = 11 ∷ 12 ∷ 13 ∷ 14 ∷ pair_refusals
column_refusals ByNumber = 11 ∷ 13 ∷ 14 ∷ (pair_refusals ++ (25 ∷ 26 ∷ 28 ∷ 54 ∷ 55 ∷ []))

-- L3: "53 for such a column, tested after the defaults are read and before the first target column"
abbrev pub extra_refusals : List ℕ
extra_refusals = 53 ∷ []

-- "Checking a plan", after the layouts; L5: 55 "as the last test, after 33"
abbrev pub check_refusals : List ℕ
check_refusals = 30 ∷ 31 ∷ 32 ∷ 33 ∷ 55 ∷ []

-- "Running": the record; L1: "52 when a record's decimal is too large"; L5: "56 when a record has null in a required
-- field"
abbrev pub record_refusals : List ℕ
record_refusals = 43 ∷ 40 ∷ 41 ∷ 52 ∷ 56 ∷ 42 ∷ []

pub data Call : Type 0 where
  reading_layout : Call
  building : Matching → Call
  checking_plan : Call
  running : Call

abbrev pub refusals_of : Call → List ℕ
refusals_of reading_layout = layout_refusals
refusals_of (building ByName) = layout_refusals ++ (10 ∷ (extra_refusals ++ (column_refusals ByName ++ (27 ∷ []))))
refusals_of (building ByNumber) = layout_refusals ++ (10 ∷ (table_refusals ++ (extra_refusals ++ (column_refusals ByNumber ++ (27 ∷ [])))))
refusals_of checking_plan = layout_refusals ++ check_refusals
refusals_of running = layout_refusals ++ (check_refusals ++ (record_refusals ++ (44 ∷ 45 ∷ [])))

-- ---- the places

-- "for 1 to 6 the layout or table, in reading order from 1"
abbrev pub layout_placed : List ℕ
layout_placed = 1 ∷ 2 ∷ 3 ∷ 4 ∷ 5 ∷ 6 ∷ []

-- "for 11 to 26, 28, 31, 32 the top column's position, from 0"
abbrev pub column_placed : List ℕ
column_placed = 11 ∷ 12 ∷ 13 ∷ 14 ∷ 15 ∷ 16 ∷ 17 ∷ 18 ∷ 19 ∷ 20 ∷ 21 ∷ 22 ∷ 23 ∷ 24 ∷ 25 ∷ 26 ∷ 28 ∷ 31 ∷ 32 ∷ []

-- L3: of 53 "the incoming position"
abbrev pub incoming_placed : List ℕ
incoming_placed = 53 ∷ []

-- "else 0": the place of a refusal with the number n that is met at k
abbrev pub has_place : ℕ → Bool
has_place n = is_in n layout_placed || (is_in n column_placed || is_in n incoming_placed)

unfoldable pub place_of : ℕ → ℕ → ℕ
place_of n k = choose (has_place n) k 0

-- what is met at a layout or table, or at a column: the numbers that have its place, and 50, 51, 54 and 55, which have
-- none; 53 alone is met at an incoming column
abbrev pub layout_met : List ℕ
layout_met = 50 ∷ layout_placed

abbrev pub column_met : List ℕ
column_met = 51 ∷ 54 ∷ 55 ∷ column_placed

-- the number with which reading is refused; 0 where it is not
abbrev pub refusal_in : {A : Type 0} → Res A → ℕ
refusal_in (refuse n) = n
refusal_in (ok a at) = 0

-- Things are read in turn, the first at the place i, each with the number of its refusal: the first that is refused has
-- the number n and the place k.
abbrev pub FirstRefused : ℕ → List ℕ → ℕ → ℕ → Type 0
FirstRefused i [] n k = ⊥
FirstRefused i (zero ∷ ms) n k = FirstRefused (i + 1) ms n k
FirstRefused i (suc m ∷ ms) n k = (n ≡ suc m) × (k ≡ i)

-- The call c refuses with n, met at k. It reads the things in turn, as `FirstRefused` has them. Of a build, `incoming`
-- is the number of the incoming top columns and `columns` that of the target's; in a check or a run `columns` is that
-- of the plan's top selectors.
pub record Refusal (c : Call) (things : List ℕ) (incoming columns n k : ℕ) : Type 0 where
  pub listed : is_in n (refusals_of c) ≡ true
  pub positive : 0 < n
  pub at_thing : is_in n layout_met ≡ true → FirstRefused 1 things n k
  pub at_column : is_in n column_met ≡ true → k < columns
  pub at_incoming : is_in n incoming_placed ≡ true → k < incoming
  pub at_none_of : is_in n layout_met ≡ false → is_in n column_met ≡ false → is_in n incoming_placed ≡ false → k ≡ 0

-- Its place: of 1 to 6 the layout or table; of 11 to 26, 28, 31, 32 the column; of 53 the incoming column; of all
-- others, 50 to 52 and 54 to 56 among them, 0.
pub record Placed (things : List ℕ) (incoming columns n place : ℕ) : Type 0 where
  pub of_thing : is_in n layout_placed ≡ true → FirstRefused 1 things n place
  pub of_column : is_in n column_placed ≡ true → place < columns
  pub of_incoming : is_in n incoming_placed ≡ true → place < incoming
  pub of_other : is_in n layout_placed ≡ false → is_in n column_placed ≡ false → is_in n incoming_placed ≡ false → place ≡ 0

-- ---- what the calls are lent

-- reading one layout, as a call
abbrev pub read_layout : Bytes → Answer Layout
read_layout s = read_at_of 1 (layout s) (λ l. accepted l)

-- the incoming and the target layout, and what is read after them
abbrev pub layouts_read : Bytes → Bytes → List ℕ → List ℕ
layouts_read incoming target more = refusal_in (layout incoming) ∷ refusal_in (layout target) ∷ more

-- a table of defaults, read after them
abbrev pub table_read : Bytes → List ℕ
table_read defaults = refusal_in (table defaults) ∷ []

-- the number of a layout's top columns, 0 where it is refused
abbrev pub columns_in : Res Layout → ℕ
columns_in (refuse n) = 0
columns_in (ok l at) = count_columns l.columns

abbrev pub column_count : Bytes → ℕ
column_count s = columns_in (layout s)

-- the number of a plan's top selectors, 0 where it is refused
abbrev pub selectors_in : Res Selectors → ℕ
selectors_in (refuse n) = 0
selectors_in (ok ss at) = count_selectors ss

abbrev pub selector_count : Bytes → ℕ
selector_count s = selectors_in (plan s)
