pub mod Laws
pub mod Moving
pub mod Tallies
