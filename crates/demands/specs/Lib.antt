pub mod Refusals
pub mod Stated
