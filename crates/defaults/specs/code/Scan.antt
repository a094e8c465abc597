-- How the code looks for an entry, over any bytes: the first of n that is of an id and a kind and counts for an owner,
-- as `read_entry` answers them.
use Rattle.std.specs.Prelude.{ℕ, zero, suc, Bool, true, false, ◌&&◌, eqb}
use Rattle.layout.specs.Bytes.{Bytes}
use Rattle.layout.specs.Parser.{choose}
use Rattle.layout.specs.declared.columns.FieldId.{FieldId}
use Rattle.defaults.specs.Table.{same_kind_of, same_owner}
use Rattle.defaults.specs.code.Answers.{entry_read_of}
use Rattle.defaults.specs.declared.read.Owner.{Owner}
use Rattle.defaults.specs.declared.read.TableVersion.{TableVersion}
use Rattle.defaults.specs.declared.read.EntryKind.{EntryKind}
use Rattle.defaults.specs.declared.read.EntryRead.{EntryRead}
use Rattle.defaults.specs.declared.read.EntryFound.{EntryFound}

-- whether an owner, id and kind that were read are those looked for
abbrev pub is_of : Owner → FieldId → EntryKind → Owner → FieldId → EntryKind → Bool
is_of o i k p j l = (eqb i.0 j.0 && same_kind_of k l) && same_owner o p

-- an entry as it was answered, and what follows it
unfoldable pub seek_on : Owner → FieldId → EntryKind → EntryRead → (ℕ → EntryFound) → EntryFound
seek_on o i k (EntryRead.Refused n) f = EntryFound.Absent
seek_on o i k (EntryRead.Is p j l g m) f = choose (is_of o i k p j l) (EntryFound.At g) (f m.at)

unfoldable pub seek : TableVersion → Owner → FieldId → EntryKind → ℕ → Bytes → ℕ → EntryFound
seek v o i k zero s at = EntryFound.Absent
seek v o i k (suc n) s at = seek_on o i k (entry_read_of v s at) (λ m. seek v o i k n s m)

abbrev pub is_found : EntryFound → Bool
is_found (EntryFound.At c) = true
is_found EntryFound.Absent = false
