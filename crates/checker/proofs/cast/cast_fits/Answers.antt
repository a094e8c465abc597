-- `checker::cast::cast_fits` meets its contract. Assumes nothing.
use Rattle.checker.proofs.Casting.{leaf-inside, leaf_fits, nested_fits}
use mathlib.Core.Path.{refl}
use Rattle.checker.proofs.cast.cast_fits.Goals as goal

pub leaf_fits-requires : goal.leaf_fits-requires
leaf_fits-requires c =
    let (t, H) = c.requires in leaf-inside H c.in-Leaf.is c.in-Incoming.is

pub leaf_fits-requires-in-Plan : goal.leaf_fits-requires-in-Plan
leaf_fits-requires-in-Plan c =
    let (t, H) = c.requires in leaf-inside H c.in-Leaf.is c.in-Plan.is

pub returns-in-Incoming : goal.returns-in-Incoming
returns-in-Incoming c =
    λ t Q H. leaf_fits H c.in-Leaf.is c.in-Incoming.is _ _ (c.leaf_fits.ensures Q)

pub returns-in-Plan : goal.returns-in-Plan
returns-in-Plan c =
    λ t Q H. leaf_fits H c.in-Leaf.is c.in-Plan.is _ _ (c.leaf_fits-in-Plan.ensures Q)

pub returns-in-Struct : goal.returns-in-Struct
returns-in-Struct c =
    λ t Q H. nested_fits H _ _ c.in-Struct.is refl

pub returns-in-List : goal.returns-in-List
returns-in-List c =
    λ t Q H. nested_fits H _ _ c.in-List.is refl

pub returns-in-Array : goal.returns-in-Array
returns-in-Array c =
    λ t Q H. nested_fits H _ _ c.in-Array.is refl
