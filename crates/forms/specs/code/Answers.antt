-- What the answers of the code stand for.
use Rattle.std.specs.Prelude.{ℕ, Bool, true, false}
use Rattle.layout.specs.Parser.{Res, refuse, ok}
use Rattle.layout.specs.declared.cursor.Cursor.{Cursor}
use Rattle.forms.specs.declared.compare.Same.{Same}

-- where what was read ends; where nothing could be read, the start
unfoldable pub end_of : {A : Type 0} → Res A → Cursor → Cursor
end_of (refuse n) c = c
end_of (ok a m) c = record { at = m }

-- whether two types are the same, and where each ends
unfoldable pub same_of : Bool → ℕ → ℕ → Same
same_of true e f = Same.To (record { at = e }) (record { at = f })
same_of false e f = Same.No
