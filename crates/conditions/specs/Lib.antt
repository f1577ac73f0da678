pub mod Values
pub mod Conditions
pub mod Shortcuts
pub mod View
pub mod Good
