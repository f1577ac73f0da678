pub mod Examples
pub mod Values
pub mod Good
pub mod View
