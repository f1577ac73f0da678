pub mod Refusals
pub mod Worked
pub mod NoFaster
pub mod Handed
