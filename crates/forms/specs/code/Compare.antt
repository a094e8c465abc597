-- Types compared part with part, as code compares them. That it is what the document defines (`Same.antt`) is a law
-- (`proofs/Equal.antt`).
use Rattle.std.specs.Prelude.{ℕ, Bool, true, false, ◌&&◌, eqb}
use Rattle.layout.specs.Bytes.{same_bytes}
use Rattle.layout.specs.Tree.{LeafType, DataType, leaf, struct, list, array, Fields, fnil, fcons}
use Rattle.forms.specs.Form.{leaf_form}

-- kind, a date-time's unit and zone
unfoldable pub same_leaf : LeafType → LeafType → Bool
same_leaf l m = same_bytes (leaf_form l) (leaf_form m)

unfoldable mutual
  pub same_dtype : DataType → DataType → Bool
  same_dtype (leaf l) (leaf m) = same_leaf l m
  same_dtype (leaf l) (struct gs) = false
  same_dtype (leaf l) (list u) = false
  same_dtype (leaf l) (array x u) = false
  same_dtype (struct fs) (leaf m) = false
  same_dtype (struct fs) (struct gs) = same_fields_of fs gs
  same_dtype (struct fs) (list u) = false
  same_dtype (struct fs) (array x u) = false
  same_dtype (list t) (leaf m) = false
  same_dtype (list t) (struct gs) = false
  same_dtype (list t) (list u) = same_dtype t u
  same_dtype (list t) (array x u) = false
  same_dtype (array w t) (leaf m) = false
  same_dtype (array w t) (struct gs) = false
  same_dtype (array w t) (list u) = false
  same_dtype (array w t) (array x u) = eqb w x && same_dtype t u

  -- names, types and count
  pub same_fields_of : Fields → Fields → Bool
  same_fields_of fnil fnil = true
  same_fields_of fnil (fcons m u gs) = false
  same_fields_of (fcons n t fs) fnil = false
  same_fields_of (fcons n t fs) (fcons m u gs) = same_bytes n m && (same_dtype t u && same_fields_of fs gs)
