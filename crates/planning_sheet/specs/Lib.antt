pub mod Listing
pub mod Sheet
pub mod Good
pub mod View
