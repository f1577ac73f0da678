pub mod Demand
pub mod Carryover
