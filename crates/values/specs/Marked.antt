-- Document 02, L5: reading by columns whose required marks count: "56 when a record has null in a required field, in
-- byte order", that is at its presence byte. The numbers are those of Reading.antt, and 56.
use Rattle.std.specs.Prelude.{Bool, true, false}
use Rattle.layout.specs.Parser.{Parser, next, ◌>>=◌, pure, fail, if}
use Rattle.layout.specs.Tree.{leaf_of, Label, ColumnType, cleaf, cstruct, clist, carray, Columns, cnil, ccons}
use Rattle.values.specs.Value.{Value, vnull, Values, vnil, vcons}
use Rattle.values.specs.Reading.{presence, leaf_content, struct_content, list_content, array_content}

-- the presence byte of a column that is required or not
unfoldable pub presence_marked : Bool → Parser Bool
presence_marked r = do
  here ← presence
  if here (pure true) (if r (fail 56) (pure false))

-- null, or what p reads
unfoldable pub nullable_marked : Bool → Parser Value → Parser Value
nullable_marked r p = do
  here ← presence_marked r
  if here p (pure vnull)

-- `mark` says which columns are required
module _ (mark : Label → Bool) where
  -- what follows the presence byte, by the type; an element has its own mark, as a field has
  unfoldable mutual
    pub content_marked : ColumnType → Parser Value
    content_marked (cleaf l) s at = leaf_content (leaf_of l) s at
    content_marked (cstruct cs) s at = struct_content (λ s at. values_marked cs s at) s at
    content_marked (clist l t) s at = list_content (nullable_marked (mark l) (λ s at. content_marked t s at)) s at
    content_marked (carray w l t) s at = array_content w (nullable_marked (mark l) (λ s at. content_marked t s at)) s at

    -- a value for each column
    pub values_marked : Columns → Parser Values
    values_marked cnil s at = pure vnil s at
    values_marked (ccons l t cs) s at =
        next (nullable_marked (mark l) (λ s at. content_marked t s at) s at) (λ v at. next (values_marked cs s at) (λ vs at. pure (vcons v vs) s at))

  -- a value of a column of the mark r and the type t
  unfoldable pub value_marked : Bool → ColumnType → Parser Value
  value_marked r t = nullable_marked r (λ s at. content_marked t s at)
