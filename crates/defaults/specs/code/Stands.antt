-- What stands at an offset of a table that was read before, and what the functions that look for a default answer of
-- it.
use Rattle.std.specs.Prelude.{ℕ, ◌<◌, ◌≡◌, List, []}
use Rattle.layout.specs.Bytes.{Bytes}
use Rattle.layout.specs.Parser.{ok}
use Rattle.layout.specs.Tree.{LeafType, leaf}
use Rattle.layout.specs.code.Answers.{leaf_at, SpanIn}
use Rattle.layout.specs.declared.cursor.Cursor.{Cursor}
use Rattle.layout.specs.declared.types.LeafType.{LeafType as LeafSpan}
use Rattle.values.specs.Value.{Value}
use Rattle.values.specs.Reading.{value}
use Rattle.defaults.specs.Table.{Given, given_of, Entry, OwnedEntry, entries_of, loaded_entry, entries as readEntries}
use Rattle.defaults.specs.code.Index.{Indexed}
use Rattle.defaults.specs.Lookup.{Taken, refused, nothing, taken}
use Rattle.defaults.specs.declared.lookup.DefaultValue.{DefaultValue}
use Rattle.defaults.specs.declared.lookup.DefaultFieldValues.{DefaultFieldValues}
use Rattle.defaults.specs.declared.read.EntryKind.{EntryKind}
use Rattle.defaults.specs.declared.read.EntryFound.{EntryFound}

-- a table, and the entries of the owner that a build names
pub record TableAt (s : Bytes) (d : DefaultFieldValues) : Type 0 where
  pub all : List OwnedEntry
  pub end : ℕ
  pub reads : readEntries d.version d.count [] s d.entries.at ≡ ok all end
  pub entries : List Entry
  pub owned : entries ≡ entries_of d.owner all

-- an index of its entries; where there are none it may hold anything
abbrev pub IndexOf : Bytes → DefaultFieldValues → List ℕ → Type 0
IndexOf s d index = 0 < d.count → Indexed d.version s d.count d.entries.at index

-- a table and its index
abbrev pub IndexedTableAt : Bytes → List ℕ → DefaultFieldValues → Type 0
IndexedTableAt s index d = TableAt s d × IndexOf s d index

-- what an entry of the kind k gives
pub record GivenAt (k : EntryKind) (s : Bytes) (at : ℕ) : Type 0 where
  pub given : Given
  pub end : ℕ
  pub reads : given_of k s at ≡ ok given end

-- what a partition gives that was loaded
pub record LoadedAt (s : Bytes) (at : ℕ) : Type 0 where
  pub given : Given
  pub end : ℕ
  pub reads : loaded_entry s at ≡ ok given end

-- ---- an entry that is looked for

-- what the first such entry gives, if there is one
pub data First : Type 0 where
  absent : First
  first : Given → First

-- the answer r says where that stands which an entry of the kind k gives
pub record FoundEntry (s : Bytes) (k : EntryKind) (g : Given) (r : EntryFound) : Type 0 where
  pub start : Cursor
  pub end : ℕ
  pub is : r ≡ EntryFound.At start
  pub reads : given_of k s start.at ≡ ok g end

abbrev pub FindsEntry : Bytes → EntryKind → First → EntryFound → Type 0
FindsEntry s k absent r = r ≡ EntryFound.Absent
FindsEntry s k (first g) r = FoundEntry s k g r

-- ---- a default

-- the answer r is the leaf type l and says where the value v stands, which is of this type
pub record TakenAt (s : Bytes) (l : LeafType) (v : Value) (r : DefaultValue) : Type 0 where
  pub span : LeafSpan
  pub start : Cursor
  pub end : ℕ
  pub is : r ≡ DefaultValue.At span start
  pub type : leaf_at s span ≡ l
  pub inside : SpanIn s span.zone
  pub reads : value (leaf l) s start.at ≡ ok v end

-- the answer r is what is taken; 26 is the only refusal
abbrev pub Answers : Bytes → Taken → DefaultValue → Type 0
Answers s (refused n) r = (n ≡ 26) × (r ≡ DefaultValue.Failed)
Answers s nothing r = r ≡ DefaultValue.Nothing
Answers s (taken l v) r = TakenAt s l v r
