pub mod Leaves
pub mod Equal
pub mod Slices
pub mod Read
pub mod ReadBack
pub mod Written
pub mod Theorems
pub mod Heads
pub mod Writing
pub mod Comparing
mod Samples
