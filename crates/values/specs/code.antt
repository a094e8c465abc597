pub mod Answers
pub mod Stands
pub mod Numbers
pub mod Marks
