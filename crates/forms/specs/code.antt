pub mod Compare
pub mod Answers
pub mod Labelled
pub mod Heads
pub mod Readable
