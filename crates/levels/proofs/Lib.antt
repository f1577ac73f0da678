pub mod Limits
pub mod Settled
