pub mod Place
pub mod Bounded
pub mod Entered
pub mod Movable
pub mod Tally
