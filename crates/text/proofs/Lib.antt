pub mod Turns
pub mod Examples
