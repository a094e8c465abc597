-- Document 01, "Reading a layout": the depth of a type.
use Rattle.std.specs.Prelude.{ℕ, suc, max}
use Rattle.layout.specs.Tree.{DataType, leaf, struct, list, array, Fields, fnil, fcons}

-- a leaf is 1; a struct, list or array is one more than its deepest part
unfoldable mutual
  pub depth_of : DataType → ℕ
  depth_of (leaf l) = 1
  depth_of (struct fs) = suc (depth_of_fields fs)
  depth_of (list t) = suc (depth_of t)
  depth_of (array w t) = suc (depth_of t)

  pub depth_of_fields : Fields → ℕ
  depth_of_fields fnil = 0
  depth_of_fields (fcons n t fs) = max (depth_of t) (depth_of_fields fs)
