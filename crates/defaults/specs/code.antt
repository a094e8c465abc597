pub mod Answers
pub mod Scan
pub mod Index
pub mod Stands
