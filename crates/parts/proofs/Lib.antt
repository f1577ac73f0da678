pub mod Allowed
pub mod Each
pub mod Groups
pub mod Good
