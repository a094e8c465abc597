-- Document 01, "Types are equal when their version 1 forms have the same bytes".
use Rattle.std.specs.Prelude.{Bool, true, false, ◌&&◌}
use Rattle.layout.specs.Bytes.{same_bytes}
use Rattle.layout.specs.Tree.{LeafType, DataType, leaf, Fields, fnil, fcons}
use Rattle.forms.specs.Form.{form}

unfoldable pub equal_types : DataType → DataType → Bool
equal_types t u = same_bytes (form t) (form u)

abbrev pub equal_leaves : LeafType → LeafType → Bool
equal_leaves l m = equal_types (leaf l) (leaf m)

-- columns: the same names, equal types, as many
unfoldable pub equal_fields : Fields → Fields → Bool
equal_fields fnil fnil = true
equal_fields fnil (fcons m u gs) = false
equal_fields (fcons n t fs) fnil = false
equal_fields (fcons n t fs) (fcons m u gs) = same_bytes n m && (equal_types t u && equal_fields fs gs)
