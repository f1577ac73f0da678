pub mod Forecast
pub mod Foot
pub mod Shown
pub mod Export
