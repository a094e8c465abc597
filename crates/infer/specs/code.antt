pub mod Naming
pub mod Writing
pub mod Typed
