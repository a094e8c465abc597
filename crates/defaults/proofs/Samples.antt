-- Some tables, and what the definitions make of them: computed.
use Prim.Native.Nat.{ℕ}
use mathlib.Core.Path.{◌≡◌, refl}
use mathlib.Core.List.{List, [], ◌∷◌, ◌++◌, map}
use lib.ListN.{replicate, take}
use Rattle.layout.specs.Bytes.{Bytes, same_bytes}
use Rattle.layout.specs.Parser.{Res, refuse, ok, next, choose, byte, chunk, u16, u32}
use Rattle.layout.specs.Tree.{integer}
use Rattle.layout.specs.Layout.{text, unit, leaf_head, datetime_head, decimal_params, decimal_head, sized, ended}
use Rattle.layout.specs.declared.leaf.Leaf.{Leaf}
use Rattle.values.specs.Record.{renumber}
use Rattle.values.specs.Value.{vnull, vnumber, vnil, vcons}
use Rattle.values.specs.Reading.{presence, nullable, flag, little, decimal, long_text, content_by, leaf_content, content, value, times}
use Rattle.defaults.specs.Table.{Given, initial, partition, failed, OwnedEntry, counts_for, same_kind_of, same_owner, repeats_any_entry, entries_of}
use Rattle.defaults.specs.Table.{only_leaf}
use Rattle.defaults.specs.Table.{default_type, initial_entry, loaded_entry, partition_entry, entry_kind, given_of, table_number, entry, owner_of, owned_entry}
use Rattle.defaults.specs.Table.{entries, table_version, TableTree, counted_table, table_from, table}
use Rattle.defaults.specs.declared.read.Owner.{Owner}
use Rattle.defaults.specs.declared.read.TableVersion.{TableVersion}
use Rattle.defaults.specs.declared.read.TableVersion.TheVariants.{Shared, ByOwner}
use Rattle.defaults.specs.Lookup.{Taken, refused, nothing, taken, unless_null, of_source, given_to, first_entry_of, get_default_value}
use Rattle.numeric.specs.Integers.{signed}
use Rattle.numeric.specs.Decimals.{within_precision}
use Rattle.numeric.specs.declared.integers.Integer.TheVariants.{Int8}

-- `DEF`, the version v, n entries
abbrev versioned : ℕ → ℕ → Bytes → Bytes
versioned v n rest = 0x44 ∷ 0x45 ∷ 0x46 ∷ v ∷ 0 ∷ n ∷ 0 ∷ rest

abbrev tabled : ℕ → Bytes → Bytes
tabled n rest = versioned 1 n rest

-- opens every definition that a sample computes through
computed : Bytes → Res TableTree
unfolding table table_from counted_table table_version same_bytes sized ended entries owned_entry owner_of entry table_number renumber entry_kind given_of
    partition_entry loaded_entry initial_entry default_type only_leaf same_kind_of same_owner counts_for repeats_any_entry leaf_head datetime_head unit text byte chunk
    u16 u32 value content presence nullable flag little long_text content_by leaf_content times next choose decimal_head decimal_params decimal
    within_precision signed
computed s = table s

-- the default of an id for an owner, where the table is read
abbrev default_of : ℕ → ℕ → ℕ → Res TableTree → Taken
default_of o k i (refuse n) = refused n
default_of o k i (ok t at) = get_default_value (entries_of o t.entries) k (record { 0 = i })

abbrev default : ℕ → ℕ → Res TableTree → Taken
default k i t = default_of 0 k i t

looked : ℕ → ℕ → Bytes → Taken
unfolding computed entries_of get_default_value first_entry_of given_to of_source unless_null
looked k i s = default k i (table s)

-- 0 for a table that is read, or the refusal's number
abbrev number_of : Res TableTree → ℕ
number_of (refuse n) = n
number_of (ok t at) = 0

-- id 5: an initial 7; for the partition's sources null and 9. Id 6: an initial 8; id 7: a partition that failed; id 8:
-- a null initial
good : Bytes
good = tabled 5 (5 ∷ 0 ∷ 0 ∷ 0 ∷ 0 ∷ 2 ∷ 1 ∷ 7 ∷ 5 ∷ 0 ∷ 0 ∷ 0 ∷ 1 ∷ 0 ∷ 2 ∷ 2 ∷ 0 ∷ 0 ∷ 1 ∷ 9
    ∷ 6 ∷ 0 ∷ 0 ∷ 0 ∷ 0 ∷ 2 ∷ 1 ∷ 8 ∷ 7 ∷ 0 ∷ 0 ∷ 0 ∷ 1 ∷ 1 ∷ 8 ∷ 0 ∷ 0 ∷ 0 ∷ 0 ∷ 2 ∷ 0 ∷ [])

abbrev owned : Owner → ℕ → Given → OwnedEntry
owned o i g = record { owner = o; entry = record { id = record { 0 = i }; given = g } }

abbrev entry_for : ℕ → Given → OwnedEntry
entry_for i g = owned Owner.Every i g

abbrev tree : TableVersion → List OwnedEntry → TableTree
tree v es = record { version = v; entries = es }

good_read : table good ≡ ok (tree Shared (entry_for 5 (initial (integer Int8) (vnumber (Leaf.Integer Int8) 7)) ∷ entry_for 5
    (partition (integer Int8) (vcons vnull (vcons (vnumber (Leaf.Integer Int8) 9) vnil)))
    ∷ entry_for 6 (initial (integer Int8) (vnumber (Leaf.Integer Int8) 8)) ∷ entry_for 7 failed ∷ entry_for 8 (initial (integer Int8) vnull) ∷ [])) 48
unfolding computed good
good_read = refl

-- a partition entry wins; null or past the end is no default, and no initial one is tried
good_defaults : map (λ k. default k 5 (table good)) (0 ∷ 1 ∷ 2 ∷ []) ≡ nothing ∷ taken (integer Int8) (vnumber (Leaf.Integer Int8) 9) ∷ nothing ∷ []
unfolding looked good
good_defaults = refl

-- an initial one, a failed one, a null initial one, and an id that the table does not have
other_defaults : map (λ i. default 0 i (table good)) (6 ∷ 7 ∷ 8 ∷ 9 ∷ []) ≡ taken (integer Int8) (vnumber (Leaf.Integer Int8) 8) ∷ refused 26 ∷ nothing
    ∷ nothing ∷ []
unfolding looked good
other_defaults = refl

no_entries : table (tabled 0 []) ≡ ok (tree Shared []) 7
unfolding computed
no_entries = refl

-- it ends at each byte of its first entry: 1 before the mark and version are whole, then 2
good_ends : map (λ n. number_of (table (take n good))) (0 ∷ 4 ∷ 5 ∷ 6 ∷ 7 ∷ 10 ∷ 11 ∷ 12 ∷ 13 ∷ 14 ∷ []) ≡ 1 ∷ 1 ∷ 2 ∷ 2 ∷ 2 ∷ 2 ∷ 2 ∷ 2 ∷ 2 ∷ 2 ∷ []
unfolding computed good
good_ends = refl

unmarked : table (versioned 3 0 []) ≡ refuse 1
unfolding computed
unmarked = refl

bytes_left : table (tabled 0 (0 ∷ [])) ≡ refuse 6
unfolding computed
bytes_left = refl

-- ---- repeats: of one kind, whether loaded or failed, and once the entry is read; of two kinds there is none (`good`)

two-initial : table (tabled 3 (5 ∷ 0 ∷ 0 ∷ 0 ∷ 0 ∷ 2 ∷ 0 ∷ 5 ∷ 0 ∷ 0 ∷ 0 ∷ 0 ∷ 2 ∷ 0 ∷ [])) ≡ refuse 5
unfolding computed
two-initial = refl

two_partitions : table (tabled 2 (5 ∷ 0 ∷ 0 ∷ 0 ∷ 1 ∷ 0 ∷ 2 ∷ 0 ∷ 0 ∷ 5 ∷ 0 ∷ 0 ∷ 0 ∷ 1 ∷ 1 ∷ [])) ≡ refuse 5
unfolding computed
two_partitions = refl

repeated_unknown : table (tabled 2 (5 ∷ 0 ∷ 0 ∷ 0 ∷ 0 ∷ 2 ∷ 0 ∷ 5 ∷ 0 ∷ 0 ∷ 0 ∷ 0 ∷ 99 ∷ [])) ≡ refuse 3
unfolding computed
repeated_unknown = refl

-- ---- types, kinds and load bytes

-- a struct's, list's or array's code is 3, even where the bytes end after it
nested : map (λ c. number_of (table (tabled 1 (5 ∷ 0 ∷ 0 ∷ 0 ∷ 0 ∷ c ∷ [])))) (18 ∷ 19 ∷ 20 ∷ 22 ∷ []) ≡ 3 ∷ 3 ∷ 3 ∷ 3 ∷ []
unfolding computed
nested = refl

-- a decimal: the faults of 50 and 52 are 3; an early end is 2
abbrev scaled : ℕ → ℕ → ℕ → Bytes
scaled p c b = tabled 1 (5 ∷ 0 ∷ 0 ∷ 0 ∷ 0 ∷ 21 ∷ p ∷ c ∷ 1 ∷ b ∷ 0 ∷ 0 ∷ 0 ∷ 0 ∷ 0 ∷ 0 ∷ 0 ∷ [])

decimals : map (λ s. number_of (table s)) (scaled 1 0 9 ∷ scaled 1 0 10 ∷ scaled 0 0 0 ∷ scaled 19 0 0 ∷ scaled 3 4 0 ∷ []) ≡ 0 ∷ 3 ∷ 3 ∷ 3 ∷ 3 ∷ []
unfolding computed
decimals = refl

decimal-ends : map (λ n. number_of (table (take n (scaled 1 0 10)))) (13 ∷ 14 ∷ 15 ∷ 23 ∷ []) ≡ 2 ∷ 2 ∷ 2 ∷ 2 ∷ []
unfolding computed
decimal-ends = refl

unknown_kind : table (tabled 1 (5 ∷ 0 ∷ 0 ∷ 0 ∷ 2 ∷ [])) ≡ refuse 3
unfolding computed
unknown_kind = refl

unknown_load : table (tabled 1 (5 ∷ 0 ∷ 0 ∷ 0 ∷ 1 ∷ 2 ∷ [])) ≡ refuse 3
unfolding computed
unknown_load = refl

long_zone : table (tabled 1 (5 ∷ 0 ∷ 0 ∷ 0 ∷ 0 ∷ 14 ∷ 0 ∷ 64 ∷ [])) ≡ refuse 4
unfolding computed
long_zone = refl

-- ---- values

value-ends : table (tabled 1 (5 ∷ 0 ∷ 0 ∷ 0 ∷ 0 ∷ 3 ∷ 1 ∷ 7 ∷ [])) ≡ refuse 2
unfolding computed
value-ends = refl

bad_presence : table (tabled 1 (5 ∷ 0 ∷ 0 ∷ 0 ∷ 0 ∷ 2 ∷ 2 ∷ [])) ≡ refuse 3
unfolding computed
bad_presence = refl

present-null : table (tabled 1 (5 ∷ 0 ∷ 0 ∷ 0 ∷ 0 ∷ 0 ∷ 1 ∷ [])) ≡ refuse 3
unfolding computed
present-null = refl

bad_boolean : table (tabled 1 (5 ∷ 0 ∷ 0 ∷ 0 ∷ 0 ∷ 1 ∷ 1 ∷ 2 ∷ [])) ≡ refuse 3
unfolding computed
bad_boolean = refl

-- 4 comes before 1
too_long : table (replicate 16385 0) ≡ refuse 4
unfolding computed
too_long = refl

-- ---- document 02, L7: version 2, an owner before each id

-- an initial int8 x for the id 2
abbrev int8_of : ℕ → Bytes
int8_of x = 2 ∷ 0 ∷ 0 ∷ 0 ∷ 0 ∷ 2 ∷ 1 ∷ x ∷ []

abbrev int8_for : Owner → ℕ → OwnedEntry
int8_for o x = owned o 2 (initial (integer Int8) (vnumber (Leaf.Integer Int8) x))

-- one id and kind of two owners, 1 and 257
two_owners : Bytes
two_owners = versioned 2 2 ((1 ∷ 0 ∷ int8_of 7) ++ (1 ∷ 1 ∷ int8_of 9))

two_owners_read : table two_owners ≡ ok (tree ByOwner (int8_for (Owner.Only 1) 7 ∷ int8_for (Owner.Only 257) 9 ∷ [])) 27
unfolding computed two_owners
two_owners_read = refl

-- each has its own default, a third none; of version 1 every owner has it
own_defaults : map (λ o. default_of o 0 2 (table two_owners)) (1 ∷ 257 ∷ 2 ∷ [])
    ≡ taken (integer Int8) (vnumber (Leaf.Integer Int8) 7) ∷ taken (integer Int8) (vnumber (Leaf.Integer Int8) 9) ∷ nothing ∷ []
unfolding looked two_owners
own_defaults = refl

shared_default : map (λ o. default_of o 0 2 (table (tabled 1 (int8_of 7)))) (0 ∷ 65535 ∷ [])
    ≡ taken (integer Int8) (vnumber (Leaf.Integer Int8) 7) ∷ taken (integer Int8) (vnumber (Leaf.Integer Int8) 7) ∷ []
unfolding looked
shared_default = refl

-- 5 of one owner, once that entry is read; an id of both kinds is none
owner-repeats : table (versioned 2 2 ((1 ∷ 0 ∷ int8_of 7) ++ (1 ∷ 0 ∷ int8_of 9))) ≡ refuse 5
unfolding computed
owner-repeats = refl

owner_unread : table (versioned 2 2 ((1 ∷ 0 ∷ int8_of 7) ++ (1 ∷ 0 ∷ 2 ∷ 0 ∷ 0 ∷ 0 ∷ 0 ∷ 2 ∷ 1 ∷ []))) ≡ refuse 2
unfolding computed
owner_unread = refl

owner-kinds : number_of (table (versioned 2 2 ((1 ∷ 0 ∷ int8_of 7) ++ (1 ∷ 0 ∷ 2 ∷ 0 ∷ 0 ∷ 0 ∷ 1 ∷ 1 ∷ [])))) ≡ 0
unfolding computed
owner-kinds = refl

-- a fault in another owner's entry; the bytes end inside the owner; left over
owner_faults : map (λ s. number_of (table s)) (versioned 2 2 ((1 ∷ 0 ∷ int8_of 7) ++ (2 ∷ 0 ∷ 2 ∷ 0 ∷ 0 ∷ 0 ∷ 2 ∷ [])) ∷ versioned 2 1 (1 ∷ [])
    ∷ versioned 2 1 ((1 ∷ 0 ∷ int8_of 7) ++ (0 ∷ [])) ∷ []) ≡ 3 ∷ 2 ∷ 6 ∷ []
unfolding computed
owner_faults = refl
