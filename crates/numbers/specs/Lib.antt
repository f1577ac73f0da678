pub mod Number
pub mod Field
pub mod Row
pub mod Writing
pub mod Filled
