pub mod Bytes
pub mod Parser
pub mod Limits
pub mod Tree
pub mod Layout
pub mod Find
pub mod code
