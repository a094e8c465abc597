pub mod Choice
pub mod Rules
pub mod Answers
