pub mod Empty
pub mod Drop
pub mod Passing
pub mod Rows
