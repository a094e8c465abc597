pub mod Constants
pub mod Leaves
pub mod Storing
