pub mod Examples
pub mod Joined
