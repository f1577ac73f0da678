pub mod Listed
pub mod Ranges
pub mod Refusals
