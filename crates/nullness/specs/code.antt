pub mod Incoming
pub mod Places
pub mod Stops
pub mod Marked
pub mod Nulls
