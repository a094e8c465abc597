pub mod Default
pub mod Build
pub mod Extra
pub mod Calls
pub mod Due
pub mod Untouched
