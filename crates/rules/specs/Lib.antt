pub mod Rules
pub mod View
pub mod Outflow
pub mod Good
