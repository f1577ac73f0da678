pub mod Real
pub mod Table
pub mod Section
pub mod Numbers
pub mod Good
pub mod Claims
