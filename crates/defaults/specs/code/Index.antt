-- An index of a table's entries, in one list: a link for each place where an entry can begin, six bytes apart, then the
-- heads of the chains. An id's chain is by its remainder; its head leads to the chain's last entry, the link of an
-- entry to the one before it, and 0 ends a chain.
use Rattle.std.specs.Prelude.{ℕ, zero, suc, ◌+◌, ◌-◌, ◌/◌, ◌%◌, ◌≤◌, ◌<◌, ◌≡◌, List, eqb, length, get_or, set}
use Rattle.layout.specs.Bytes.{Bytes}
use Rattle.layout.specs.Parser.{Res, refuse, ok, Parser, choose, ◌>>=◌, pure, u32}
use Rattle.layout.specs.declared.columns.FieldId.{FieldId}
use Rattle.layout.specs.declared.cursor.Cursor.{Cursor}
use Rattle.defaults.specs.Table.{entry_kind, owner_of}
use Rattle.defaults.specs.code.Scan.{is_of, seek}
use Rattle.defaults.specs.declared.read.Owner.{Owner}
use Rattle.defaults.specs.declared.read.TableVersion.{TableVersion}
use Rattle.defaults.specs.declared.read.TableVersion.TheVariants.{Shared, ByOwner}
use Rattle.defaults.specs.declared.read.EntryKind.{EntryKind}
use Rattle.defaults.specs.declared.read.EntryFound.{EntryFound}
use Rattle.defaults.specs.declared.read.HeadRead.{HeadRead}
use Rattle.defaults.specs.declared.read.TableRead.{TableRead}

-- ---- what is read of an entry before that which it gives

pub record EntryHead : Type 0 where
  pub owner : Owner
  pub id : FieldId
  pub kind : EntryKind

unfoldable pub entry_head : TableVersion → Parser EntryHead
entry_head v = do
  o ← owner_of v
  i ← u32
  k ← entry_kind
  pure (record { owner = o; id = record { 0 = i }; kind = k })

abbrev pub entry_head_res : HeadRead → Res EntryHead
entry_head_res (HeadRead.Is o i k c) = ok (record { owner = o; id = i; kind = k }) c.at
entry_head_res (HeadRead.Refused n) = refuse n

-- whose the entries of a table are that count for the owner n
abbrev pub owner_in : TableVersion → ℕ → Owner
owner_in Shared n = Owner.Every
owner_in ByOwner n = Owner.Only n

-- ---- the list

-- the number of links for a table of so many bytes
abbrev pub links : ℕ → ℕ
links len = len / 6 + 1

-- where the head of an id's chain stands, in an index of this size
abbrev pub head_of : ℕ → ℕ → FieldId → ℕ
head_of len size i = links len + i.0 % (size - links len)

-- the index with one more entry, which begins at an offset
abbrev pub pushed : ℕ → ℕ → FieldId → List ℕ → List ℕ
pushed len at i index = set (set index (at / 6) (get_or index (head_of len (length index) i) 0)) (head_of len (length index) i) at

-- an entry of a chain, by what was read of it, and what the entries before it come to
unfoldable pub found_or : Owner → FieldId → EntryKind → Res EntryHead → EntryFound → EntryFound
found_or o i k (refuse n) r = EntryFound.Absent
found_or o i k (ok h m) r = choose (is_of o i k h.owner h.id h.kind) (EntryFound.At (record { at = m })) r

-- of at most n entries of the chain that leads to x, the first that is of this id and kind and counts for the owner
unfoldable pub follow : TableVersion → Owner → FieldId → EntryKind → ℕ → Bytes → List ℕ → ℕ → EntryFound
follow v o i k zero s index x = EntryFound.Absent
follow v o i k (suc n) s index x =
    choose (eqb x 0) EntryFound.Absent (found_or o i k (entry_head v s x) (follow v o i k n s index (get_or index (x / 6) 0)))

-- the same from the head of the id's chain
abbrev pub followed : TableVersion → Owner → FieldId → EntryKind → ℕ → Bytes → List ℕ → EntryFound
followed v o i k n s index = follow v o i k n s index (get_or index (head_of (length s) (length index) i) 0)

-- no number leads out of the table
pub record Inside (s : Bytes) (index : List ℕ) : Type 0 where
  pub long : links (length s) < length index
  pub within : (k : ℕ) → get_or index k 0 ≤ length s

-- an index of n entries, of which the first begins at an offset
pub record Indexed (v : TableVersion) (s : Bytes) (n from : ℕ) (index : List ℕ) : Type 0 where
  pub inside : Inside s index
  pub finds : (u : ℕ) (i : FieldId) (k : EntryKind) → followed v (owner_in v u) i k n s index ≡ seek v (owner_in v u) i k n s from

-- an index of the entries of a table that was read; after a refusal nothing is said of it
abbrev pub IndexedTable : Bytes → TableRead → List ℕ → Type 0
IndexedTable s (TableRead.Read v n c) index = Indexed v s n c.at index
IndexedTable s (TableRead.Refused k) index = Unit {0}
