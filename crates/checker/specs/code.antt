pub mod Shallow
pub mod TypesAt
pub mod Tables
pub mod Limits
pub mod Same
pub mod Checking
pub mod Tops
