pub mod Deeper
pub mod Rows
pub mod Node
pub mod Path
pub mod Leading
pub mod Sizes
pub mod Samples
