-- The parts of a type that stands at an offset, at their own offsets.
use Rattle.std.specs.Prelude.{ℕ, ◌≡◌}
use Rattle.layout.specs.Bytes.{Bytes}
use Rattle.layout.specs.Tree.{struct, list, array, dtype_of, fields_of}
use Rattle.layout.specs.Layout.{deepest}
use Rattle.layout.specs.code.Stands.{TypeAt, ColumnsAt}
use Rattle.layout.specs.declared.edition.Edition.{Edition}
use Rattle.direct.specs.declared.inside.Inside.{Inside}
use Rattle.direct.specs.declared.inside.Both.{Both}

-- the type T is a struct of n columns, which begin at m
pub record StructIn (v : Edition) (s : Bytes) (at : ℕ) (T : TypeAt v deepest s at) (n m : ℕ) : Type 0 where
  pub columns : ColumnsAt v deepest s n m
  pub is : dtype_of T.tree ≡ struct (fields_of columns.columns)
  pub ends : columns.end ≡ T.end

-- a list, whose element's type begins at m
pub record ListIn (v : Edition) (s : Bytes) (at : ℕ) (T : TypeAt v deepest s at) (m : ℕ) : Type 0 where
  pub type : TypeAt v deepest s m
  pub is : dtype_of T.tree ≡ list (dtype_of type.tree)
  pub ends : type.end ≡ T.end

pub record ArrayIn (v : Edition) (s : Bytes) (at : ℕ) (T : TypeAt v deepest s at) (w m : ℕ) : Type 0 where
  pub type : TypeAt v deepest s m
  pub is : dtype_of T.tree ≡ array w (dtype_of type.tree)
  pub ends : type.end ≡ T.end

abbrev pub InsideParts : (v : Edition) (s : Bytes) (at : ℕ) (T : TypeAt v deepest s at) → Inside → Type 0
InsideParts v s at T Inside.Leaf = Unit {0}
InsideParts v s at T (Inside.Struct n c) = StructIn v s at T n c.at
InsideParts v s at T (Inside.List c) = ListIn v s at T c.at
InsideParts v s at T (Inside.Array w c) = ArrayIn v s at T w c.at

pub record InsideIs (v : Edition) (s : Bytes) (at : ℕ) (T : TypeAt v deepest s at) (r : Inside) : Type 0 where
  pub parts : InsideParts v s at T r

-- ---- two types

pub record ArraysIn (va : Edition) (a : Bytes) (at : ℕ) (T : TypeAt va deepest a at) (vb : Edition) (b : Bytes) (bt : ℕ) (Q : TypeAt vb deepest b bt)
    (m k : ℕ) : Type 0 where
  pub width : ℕ
  pub first : ArrayIn va a at T width m
  pub second : ArrayIn vb b bt Q width k

abbrev pub BothParts : (va : Edition) (a : Bytes) (at : ℕ) (T : TypeAt va deepest a at) (vb : Edition) (b : Bytes) (bt : ℕ) (Q : TypeAt vb deepest b bt)
    → Both → Type 0
BothParts va a at T vb b bt Q (Both.Structs n c m d) = StructIn va a at T n c.at × StructIn vb b bt Q m d.at
BothParts va a at T vb b bt Q (Both.Lists c d) = ListIn va a at T c.at × ListIn vb b bt Q d.at
BothParts va a at T vb b bt Q (Both.Arrays c d) = ArraysIn va a at T vb b bt Q c.at d.at
BothParts va a at T vb b bt Q Both.Apart = Unit {0}

pub record BothIs (va : Edition) (a : Bytes) (at : ℕ) (T : TypeAt va deepest a at) (vb : Edition) (b : Bytes) (bt : ℕ) (Q : TypeAt vb deepest b bt)
    (r : Both) : Type 0 where
  pub parts : BothParts va a at T vb b bt Q r
