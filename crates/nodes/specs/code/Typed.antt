-- Types in the bytes of a layout, or of a plan: at the end of a path, and how long and how deep they are.
use Rattle.std.specs.Prelude.{ℕ, ◌≡◌, List, length}
use Rattle.layout.specs.Bytes.{Bytes}
use Rattle.layout.specs.Tree.{DataType, Fields, dtype_of}
use Rattle.layout.specs.Layout.{deepest}
use Rattle.layout.specs.code.Stands.{TypeAt}
use Rattle.layout.specs.declared.edition.Edition.{Edition}
use Rattle.forms.specs.Form.{form, form_fields}
use Rattle.forms.specs.Depth.{depth_of, depth_of_fields}
use Rattle.walk.specs.code.Types.{Along}
use Rattle.nodes.specs.declared.types.FormSize.{FormSize}

-- a type, from which the path p leads to the type u
pub record LeadsAt (v : Edition) (s : Bytes) (at : ℕ) (p : List ℕ) (u : DataType) : Type 0 where
  pub type : TypeAt v deepest s at
  pub along : Along (dtype_of type.tree) p u

-- the type u, with ids and element names dropped
pub record TypeIs (v : Edition) (s : Bytes) (at : ℕ) (u : DataType) : Type 0 where
  pub type : TypeAt v deepest s at
  pub is : dtype_of type.tree ≡ u

-- the length of a type's version 1 form, its depth, and where the type ends
pub record SizeOf (t : DataType) (end : ℕ) (r : FormSize) : Type 0 where
  pub size : r.size ≡ length (form t)
  pub deep : r.deep ≡ depth_of t
  pub ends : r.end.at ≡ end

-- the same of columns
pub record SizesOf (fs : Fields) (end : ℕ) (r : FormSize) : Type 0 where
  pub size : r.size ≡ length (form_fields fs)
  pub deep : r.deep ≡ depth_of_fields fs
  pub ends : r.end.at ≡ end
