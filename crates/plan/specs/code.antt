pub mod Paths
pub mod Fits
pub mod Formed
pub mod Fallback
pub mod Answers
pub mod Written
pub mod Skips
