pub mod Remaining
pub mod Cycle
