pub mod Answers
pub mod Scan
pub mod Pass
pub mod Seen
pub mod Stands
pub mod Finding
pub mod Parts
