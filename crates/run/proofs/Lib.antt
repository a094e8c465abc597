pub mod Parts
pub mod Following
pub mod Topping
pub mod Running
