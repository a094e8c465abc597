pub mod Places
pub mod Scopes
pub mod Insides
pub mod Fits
pub mod Inputs
