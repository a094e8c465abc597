pub mod Casts
pub mod Reaching
pub mod Opening
pub mod Chains
pub mod Given
