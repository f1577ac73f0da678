pub mod Formulas
pub mod Largest
pub mod Splits
pub mod View
pub mod Closed
