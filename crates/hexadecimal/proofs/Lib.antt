pub mod Spellings
pub mod Examples
