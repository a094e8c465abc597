pub mod Raw
pub mod Typed
