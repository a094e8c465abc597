-- What document 01 finds in a table for an id, and what the table states of it. Assumes nothing.
use Prim.Native.Nat.{ℕ, zero, suc}
use mathlib.Core.Path.{◌≡◌, refl, ap, ◌∙◌}
use mathlib.Core.Bool.{Bool, true, false}
use mathlib.Core.List.{List}
use Rattle.layout.specs.Parser.{choose}
use Rattle.layout.specs.Tree.{LeafType}
use Rattle.layout.specs.declared.columns.FieldId.{FieldId}
use Rattle.values.specs.Value.{Value, Values, vnil, vcons, is_null_value}
use Rattle.plan.proofs.Results.{true≠false}
use Rattle.defaults.specs.Table.{initial, partition, failed, Entry}
use Rattle.defaults.specs.Lookup.{Taken, refused, nothing, taken, unless_null, of_source, given_to, is_partition_of, is_initial_of, get_default_value}
use Rattle.matching.specs.Default.{Defaults, no_defaults}
use Rattle.matching.proofs.Entries.{Match, unmatched, matched, match_of, of_match, first_match, partition-is, initial-is}
use Rattle.iceberg.specs.Specification.{PartitionValue, no_transform, partitioned, InitialDefault, undefined, defined}
use Rattle.iceberg.specs.Differences.{Hiding, hides_not_present, hides_null, is_defined, Place, outside, inside}
use Rattle.iceberg.specs.Stated.{of_null, tuple_at, partition_of, empty_if, initial_of, stated}

-- what is asked for defaults: nothing inside an element
abbrev pub asked : List Entry → ℕ → Place → Defaults
asked es k outside = get_default_value es k
asked es k inside = no_defaults

-- what is found comes from the first entry of its kind
pub found_first : (es : List Entry) (k : ℕ) (i : FieldId)
    → get_default_value es k i ≡ of_match (given_to k) (of_match (given_to k) nothing (match_of (is_initial_of i) es)) (match_of (is_partition_of i) es)
unfolding get_default_value
found_first es k i =
    first_match (is_partition_of i) (given_to k) es _
    ∙ ap (λ (r : Taken). of_match (given_to k) r (match_of (is_partition_of i) es)) (first_match (is_initial_of i) (given_to k) es nothing)

-- `Facts p q x`: x is found where the partition states p and the initial default is q
pub data Facts (p : PartitionValue) (q : InitialDefault) : Taken → Type 0 where
  from_tuple : {l : LeafType} {y : Value} → p ≡ partitioned y → Facts p q (taken l y)
  none_in_tuple : {r : PartitionValue} → p ≡ r → Hiding r → Facts p q nothing
  from-initial : {l : LeafType} {y : Value} → p ≡ no_transform → q ≡ defined y → Facts p q (taken l y)
  no_initial : p ≡ no_transform → is_defined q ≡ false → Facts p q nothing
  never_accepted : {n : ℕ} → Facts p q (refused n)

pub hiding_null : (nulls : Bool) → Hiding (of_null nulls)
hiding_null true = hides_null
hiding_null false = hides_not_present

value_facts : (nulls : Bool) {p : PartitionValue} {q : InitialDefault} (l : LeafType) (v : Value) (b : Bool) → p ≡ choose b (of_null nulls) (partitioned v)
    → Facts p q (choose b nothing (taken l v))
unfolding choose
value_facts nulls l v true e = none_in_tuple e (hiding_null nulls)
value_facts nulls l v false e = from_tuple e

tuple_facts : (nulls : Bool) {p : PartitionValue} {q : InitialDefault} (l : LeafType) (xs : Values) (k : ℕ) → p ≡ tuple_at nulls xs k
    → Facts p q (of_source l xs k)
unfolding tuple_at of_source unless_null
tuple_facts nulls l vnil k e = none_in_tuple e hides_not_present
tuple_facts nulls l (vcons v vs) zero e = value_facts nulls l v (is_null_value v) e
tuple_facts nulls l (vcons v vs) (suc k) e = tuple_facts nulls l vs k e

initial_facts : {p : PartitionValue} {q : InitialDefault} (l : LeafType) (v : Value) (b : Bool) → p ≡ no_transform → q ≡ choose b undefined (defined v)
    → Facts p q (choose b nothing (taken l v))
unfolding choose
initial_facts l v true e f = no_initial e (ap is_defined f)
initial_facts l v false e f = from-initial e f

none-defined : (b : Bool) → is_defined (empty_if b) ≡ false
none-defined true = refl
none-defined false = refl

module _ (nulls : Bool) (es : List Entry) (k : ℕ) (empties : FieldId → Bool) where
  pub facts : (i : FieldId) → Facts ((stated nulls es k empties).partition i) ((stated nulls es k empties).initial_default i) (get_default_value es k i)
  unfolding given_to stated partition_of initial_of unless_null
  facts i = rw (found_first es k i) (go (match_of (is_partition_of i) es) refl (match_of (is_initial_of i) es) refl)
    where
      tuple : (c : Match) → match_of (is_partition_of i) es ≡ c → (stated nulls es k empties).partition i ≡ of_match (partition_of nulls k) no_transform c
      tuple c p = first_match (is_partition_of i) (partition_of nulls k) es no_transform ∙ ap (of_match (partition_of nulls k) no_transform) p

      default : (c : Match) → match_of (is_initial_of i) es ≡ c → (stated nulls es k empties).initial_default i ≡ of_match initial_of (empty_if (empties i)) c
      default c q = first_match (is_initial_of i) initial_of es _ ∙ ap (of_match initial_of (empty_if (empties i))) q

      go : (c : Match) → match_of (is_partition_of i) es ≡ c → (d : Match) → match_of (is_initial_of i) es ≡ d
          → Facts ((stated nulls es k empties).partition i) ((stated nulls es k empties).initial_default i)
          (of_match (given_to k) (of_match (given_to k) nothing d) c)
      go (matched (partition m xs)) p d q = tuple_facts nulls m xs k (tuple _ p)
      go (matched failed) p d q = never_accepted
      go (matched (initial m w)) p d q = true≠false (partition-is i es p) refl
      go unmatched p (matched (initial m w)) q = initial_facts m w (is_null_value w) (tuple _ p) (default _ q)
      go unmatched p (matched (partition m xs)) q = true≠false (initial-is i es q) refl
      go unmatched p (matched failed) q = true≠false (initial-is i es q) refl
      go unmatched p unmatched q = no_initial (tuple _ p) (ap is_defined (default _ q) ∙ none-defined (empties i))
