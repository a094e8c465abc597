-- Document 01, "Defaults", first sentence, and of "Building by number" the reading of the table: 4 over 16,384 bytes; 1
-- the first five bytes are not `DEF` and version 1 or 2; then forward by byte 2 where the bytes end, 4 a zone over 63
-- bytes, 3 a type that is no leaf, an unknown unit, kind or load byte, a decimal's precision or scale, or a value that
-- doesn't fit, 5 a repeated id of one kind once that entry is read; last 6 bytes left over. Document 02, L7: "`DEF`
-- version 2 puts a u16 owner before each id, and a build names its owner. An id may stand once for each owner and kind;
-- version 1 entries count for every owner."
use Rattle.std.specs.Prelude.{ℕ, zero, suc, List, [], ◌∷◌, ◌++◌, Bool, true, false, not, ◌&&◌, ◌||◌, take, eqb}
use Rattle.layout.specs.Bytes.{Bytes, same_bytes}
use Rattle.layout.specs.Parser.{Res, refuse, ok, Parser, next, choose, ◌>>=◌, ◌>>◌, pure, fail, test, if, byte, u16, u32}
use Rattle.layout.specs.Tree.{LeafType, leaf}
use Rattle.layout.specs.Layout.{Head, a_leaf, a_struct, a_list, an_array, plain_leaf, leaf_head, datetime_head, decimal_head, sized, ended}
use Rattle.layout.specs.declared.columns.FieldId.{FieldId}
use Rattle.values.specs.Value.{Value, Values}
use Rattle.values.specs.Reading.{value, times}
use Rattle.values.specs.Record.{renumber, renumbered}
use Rattle.defaults.specs.declared.read.Owner.{Owner}
use Rattle.defaults.specs.declared.read.TableVersion.{TableVersion}
use Rattle.defaults.specs.declared.read.TableVersion.TheVariants.{Shared, ByOwner}
use Rattle.defaults.specs.declared.read.EntryKind.{EntryKind}
use Rattle.defaults.specs.declared.read.EntryKind.TheVariants.{Initial, Partition}

-- what an entry gives: an initial default; a partition's values, one for each source; a partition whose values could
-- not be loaded
pub data Given : Type 0 where
  initial : LeafType → Value → Given
  partition : LeafType → Values → Given
  failed : Given

pub record Entry : Type 0 where
  pub id : FieldId
  pub given : Given

abbrev pub is_partition : Given → Bool
is_partition (initial l v) = false
is_partition (partition l vs) = true
is_partition failed = true

abbrev pub kind_of : Given → EntryKind
kind_of (initial l v) = Initial
kind_of (partition l vs) = Partition
kind_of failed = Partition

-- an entry and whose it is
pub record OwnedEntry : Type 0 where
  pub owner : Owner
  pub entry : Entry

-- whether an entry of this owner counts for the owner n
unfoldable pub counts_for : ℕ → Owner → Bool
counts_for n Owner.Every = true
counts_for n (Owner.Only m) = eqb n m

-- the entries of the owner n, in their order
unfoldable pub entries_of : ℕ → List OwnedEntry → List Entry
entries_of n [] = []
entries_of n (e ∷ es) = choose (counts_for n e.owner) (e.entry ∷ entries_of n es) (entries_of n es)

-- ---- 5: an id stands once for each owner and each of the two kinds

-- whether there is an owner for whom both count
unfoldable pub same_owner : Owner → Owner → Bool
same_owner Owner.Every o = true
same_owner (Owner.Only n) o = counts_for n o

-- whether both are of one kind
unfoldable pub same_kind_of : EntryKind → EntryKind → Bool
same_kind_of Initial Initial = true
same_kind_of Initial Partition = false
same_kind_of Partition Initial = false
same_kind_of Partition Partition = true

abbrev pub repeats_entry : Entry → Entry → Bool
repeats_entry e f = eqb e.id.0 f.id.0 && same_kind_of (kind_of e.given) (kind_of f.given)

abbrev pub repeats_owned : OwnedEntry → OwnedEntry → Bool
repeats_owned e f = repeats_entry e.entry f.entry && same_owner e.owner f.owner

unfoldable pub repeats_any_entry : OwnedEntry → List OwnedEntry → Bool
repeats_any_entry e [] = false
repeats_any_entry e (f ∷ fs) = repeats_owned e f || repeats_any_entry e fs

-- ---- an entry

unfoldable pub only_leaf : Head → Parser LeafType
only_leaf (a_leaf l) = pure l
only_leaf (a_struct n) = fail 3
only_leaf a_list = fail 3
only_leaf (an_array w) = fail 3

-- a leaf type; the code of a struct, list or array is 3 at once, as an unknown one is
unfoldable pub default_type : Parser LeafType
default_type = do
  c ← byte
  k ← if (eqb c 14) datetime_head (if (eqb c 21) decimal_head (leaf_head (plain_leaf c)))
  only_leaf k

unfoldable pub initial_entry : Parser Given
initial_entry = do
  l ← default_type
  v ← value (leaf l)
  pure (initial l v)

unfoldable pub loaded_entry : Parser Given
loaded_entry = do
  l ← default_type
  n ← u16
  vs ← times n (value (leaf l))
  pure (partition l vs)

-- by the load byte: 0 loaded, 1 failed
unfoldable pub partition_entry : Parser Given
partition_entry = do
  b ← byte
  if (eqb b 0) loaded_entry (if (eqb b 1) (pure failed) (fail 3))

-- the kind byte: 0 initial, 1 partition
unfoldable pub entry_kind : Parser EntryKind
entry_kind = do
  b ← byte
  if (eqb b 0) (pure Initial) (if (eqb b 1) (pure Partition) (fail 3))

unfoldable pub given_of : EntryKind → Parser Given
given_of Initial = initial_entry
given_of Partition = partition_entry

-- L1: "In a defaults table the faults of 50 and 52 are 3"
unfoldable pub table_number : ℕ → ℕ
table_number n = choose (eqb n 50) 3 (choose (eqb n 52) 3 n)

unfoldable pub entry : Parser Entry
entry = do
  i ← u32
  k ← entry_kind
  g ← renumbered table_number (given_of k)
  pure (record { id = record { 0 = i }; given = g })

-- in version 2 a u16 before the id
unfoldable pub owner_of : TableVersion → Parser Owner
owner_of Shared = pure Owner.Every
owner_of ByOwner = do
  n ← u16
  pure (Owner.Only n)

unfoldable pub owned_entry : TableVersion → Parser OwnedEntry
owned_entry v = do
  o ← owner_of v
  e ← entry
  pure (record { owner = o; entry = e })

-- n entries after the earlier ones
unfoldable pub entries : TableVersion → ℕ → List OwnedEntry → Parser (List OwnedEntry)
entries v zero earlier = pure earlier
entries v (suc n) earlier = do
  e ← owned_entry v
  test (not (repeats_any_entry e earlier)) 5
  entries v n (earlier ++ (e ∷ []))

-- ---- the table

-- `DEF` and a version
abbrev pub table_mark : ℕ → Bytes
table_mark v = 0x44 ∷ 0x45 ∷ 0x46 ∷ v ∷ 0 ∷ []

unfoldable pub table_version : Parser TableVersion
table_version s at =
    choose (same_bytes (take 5 s) (table_mark 1)) (ok Shared 5)
    (choose (same_bytes (take 5 s) (table_mark 2)) (ok ByOwner 5)
    (refuse 1))

-- a table that was read
pub record TableTree : Type 0 where
  pub version : TableVersion
  pub entries : List OwnedEntry

-- from the count on
unfoldable pub counted_table : TableVersion → Parser TableTree
counted_table v = do
  n ← u16
  es ← entries v n []
  ended
  pure (record { version = v; entries = es })

unfoldable pub table_from : Parser TableTree
table_from = do
  sized
  v ← table_version
  counted_table v

-- reading a defaults table
unfoldable pub table : Bytes → Res TableTree
table s = table_from s 0
