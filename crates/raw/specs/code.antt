pub mod Constant
pub mod Number
pub mod Stored
