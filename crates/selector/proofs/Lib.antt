pub mod Answers
pub mod Decoded
