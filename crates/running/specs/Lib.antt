pub mod Steps
pub mod Ready
