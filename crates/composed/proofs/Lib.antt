pub mod Composing
pub mod Chains
