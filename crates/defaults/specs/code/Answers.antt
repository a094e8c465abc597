-- What each answer of the code stands for: what a parser of specs/ gives, with positions standing for the bytes there.
use Rattle.std.specs.Prelude.{ℕ, ◌+◌, length}
use Rattle.layout.specs.Bytes.{Bytes}
use Rattle.layout.specs.Parser.{Res, refuse, ok}
use Rattle.layout.specs.Tree.{LeafType}
use Rattle.layout.specs.code.Answers.{leaf_at, SpanIn}
use Rattle.defaults.specs.Table.{Entry, kind_of, entry, owner_of, TableTree}
use Rattle.defaults.specs.declared.types.LeafRead.{LeafRead}
use Rattle.defaults.specs.declared.read.Owner.{Owner}
use Rattle.defaults.specs.declared.read.TableVersion.{TableVersion}
use Rattle.defaults.specs.declared.read.EntryKind.{EntryKind}
use Rattle.defaults.specs.declared.read.KindRead.{KindRead}
use Rattle.defaults.specs.declared.read.OwnerRead.{OwnerRead}
use Rattle.defaults.specs.declared.read.EntryRead.{EntryRead}
use Rattle.defaults.specs.declared.read.VersionRead.{VersionRead}
use Rattle.defaults.specs.declared.read.TableRead.{TableRead}

abbrev pub leaf_res : Bytes → LeafRead → Res LeafType
leaf_res s (LeafRead.Is l c) = ok (leaf_at s l) c.at
leaf_res s (LeafRead.Refused n) = refuse n

abbrev pub IsLeafIn : Bytes → LeafRead → Type 0
IsLeafIn s (LeafRead.Is l c) = SpanIn s l.zone
IsLeafIn s (LeafRead.Refused n) = Unit {0}

abbrev pub kind_res : KindRead → Res EntryKind
kind_res (KindRead.Is k c) = ok k c.at
kind_res (KindRead.Refused n) = refuse n

abbrev pub owner_res : OwnerRead → Res Owner
owner_res (OwnerRead.Is o c) = ok o c.at
owner_res (OwnerRead.Refused n) = refuse n

abbrev pub version_res : VersionRead → Res TableVersion
version_res (VersionRead.Is v) = ok v 5
version_res (VersionRead.Refused n) = refuse n

-- an entry of the owner o, whose id stands at the offset: its id and kind, where that begins which it gives (after four
-- bytes of the id and one of the kind), and its end
unfoldable pub entry_of : Owner → ℕ → Res Entry → EntryRead
entry_of o at (refuse n) = EntryRead.Refused n
entry_of o at (ok e m) = EntryRead.Is o e.id (kind_of e.given) (record { at = at + 5 }) (record { at = m })

-- an entry behind its owner
unfoldable pub entry_after : Bytes → Res Owner → EntryRead
entry_after s (refuse n) = EntryRead.Refused n
entry_after s (ok o at) = entry_of o at (entry s at)

abbrev pub entry_read_of : TableVersion → Bytes → ℕ → EntryRead
entry_read_of v s at = entry_after s (owner_of v s at)

-- the entries begin after the mark, the version and the count
unfoldable pub table_of : Res TableTree → TableRead
table_of (refuse n) = TableRead.Refused n
table_of (ok t at) = TableRead.Read t.version (length t.entries) (record { at = 7 })
