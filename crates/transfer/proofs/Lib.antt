pub mod Casting
pub mod Reaching
pub mod Origins
pub mod Opening
pub mod Rows
pub mod Chaining
