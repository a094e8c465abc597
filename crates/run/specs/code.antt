pub mod Answers
pub mod Tops
