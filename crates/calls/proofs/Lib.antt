pub mod Building
pub mod Seeking
pub mod Plans
