pub mod Chain
pub mod Output
pub mod Answers
