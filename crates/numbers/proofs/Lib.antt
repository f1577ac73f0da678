pub mod Choices
pub mod Turns
pub mod Fields
pub mod Writings
pub mod Stores
pub mod Round
pub mod Refusals
pub mod Rows
