pub mod Form
pub mod Same
pub mod Depth
pub mod code
