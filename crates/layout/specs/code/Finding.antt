-- What the code of a lookup is asked, and what its answer means.
use Rattle.std.specs.Prelude.{ℕ, ◌≡◌, Bool, eqb}
use Rattle.layout.specs.Bytes.{Bytes, same_bytes}
use Rattle.layout.specs.Parser.{ok}
use Rattle.layout.specs.Tree.{Label, ColumnType}
use Rattle.layout.specs.Layout.{type}
use Rattle.layout.specs.code.Answers.{label_at, SpanIn}
use Rattle.layout.specs.declared.columns.Position.{Position}
use Rattle.layout.specs.declared.columns.Label.{Label as LabelSpan}
use Rattle.layout.specs.declared.columns.Siblings.{Siblings}
use Rattle.layout.specs.declared.columns.Siblings.TheVariants.{Names, Ids, Free}
use Rattle.layout.specs.declared.cursor.Cursor.{Cursor}
use Rattle.layout.specs.declared.find.Wanted.{Wanted}
use Rattle.layout.specs.declared.find.Found.{Found}
use Rattle.layout.specs.declared.edition.Edition.{Edition}
use Rattle.layout.specs.declared.matching.Matching.{Matching}
use Rattle.layout.specs.declared.matching.Matching.TheVariants.{ByName, ByNumber}
use Rattle.layout.specs.Find.{Lookup, absent, present}

-- what is compared
abbrev pub match_rule : Matching → Siblings
match_rule ByName = Names
match_rule ByNumber = Ids

-- what the code looks for; the name stands beside it
abbrev pub wanted_by : Wanted → Bytes → Label → Bool
wanted_by Wanted.Name name l = same_bytes l.name name
wanted_by (Wanted.Id id) name l = eqb l.id.0 id.0

-- the answer r is the column k with the label l, whose type t stands where r says
pub record FoundAt (v : Edition) (d : ℕ) (s : Bytes) (k : Position) (l : Label) (t : ColumnType) (r : Found) : Type 0 where
  pub span : LabelSpan
  pub start : Cursor
  pub end : ℕ
  pub is : r ≡ Found.At k span start
  pub label : label_at s span ≡ l
  pub inside : SpanIn s span.name
  pub reads : type v Free d s start.at ≡ ok t end

-- the answer r is what was looked up
abbrev pub Finds : Edition → ℕ → Bytes → Lookup → Found → Type 0
Finds v d s absent r = r ≡ Found.Absent
Finds v d s (present k l t) r = FoundAt v d s k l t r
