pub mod Ranges
pub mod Want
pub mod Some
pub mod Leaves
pub mod Seek
pub mod Overflows
