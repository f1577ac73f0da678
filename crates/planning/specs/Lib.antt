pub mod Plan
pub mod View
pub mod Statement
pub mod Export
