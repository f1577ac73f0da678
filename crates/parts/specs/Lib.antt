pub mod Parts
pub mod Allowed
pub mod Good
