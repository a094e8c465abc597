pub mod Naming
pub mod Casting
pub mod Scoping
pub mod Opening
pub mod Trees
pub mod Fitting
pub mod Rows
pub mod Inputs
