pub mod Step
pub mod Claims
pub mod Bounded
pub mod Tallies
pub mod Driven
pub mod Since
