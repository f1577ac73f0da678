pub mod Numbers
pub mod Lines
pub mod Periods
pub mod Told
pub mod Foot
