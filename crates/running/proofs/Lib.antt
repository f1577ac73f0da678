pub mod InForce
pub mod Run
pub mod Loop
