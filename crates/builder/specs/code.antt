pub mod Answers
pub mod Bundles
