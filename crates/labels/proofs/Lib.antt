pub mod First
pub mod After
pub mod Filling
pub mod Seeking
pub mod Arena
