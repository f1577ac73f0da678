pub mod Outcomes
pub mod Same
pub mod Forecasts
pub mod Examples
