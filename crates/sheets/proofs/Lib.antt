pub mod Ranges
pub mod Turns
pub mod Round
pub mod Refusals
pub mod Within
pub mod Examples
