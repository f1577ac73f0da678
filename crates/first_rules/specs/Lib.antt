pub mod First
pub mod Statement
