pub mod Composing
pub mod Transferring
