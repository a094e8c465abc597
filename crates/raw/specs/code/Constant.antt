-- A constant in the bytes of a plan.
use Rattle.std.specs.Prelude.{ℕ}
use Rattle.layout.specs.Bytes.{Bytes}
use Rattle.layout.specs.Tree.{dtype_of}
use Rattle.layout.specs.code.Stands.{TypeAt}
use Rattle.layout.specs.declared.edition.Edition.TheVariants.{One}
use Rattle.values.specs.code.Stands.{ValueAt}

-- a constant's type at t, and after it its value
pub record ConstantRaw (plan : Bytes) (t : ℕ) : Type 0 where
  pub type : TypeAt One 16 plan t
  pub value : ValueAt (dtype_of type.tree) plan type.end
