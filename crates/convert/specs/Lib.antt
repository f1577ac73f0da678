pub mod Sheet
pub mod Convert
pub mod Statement
pub mod Walked
