pub mod Facility
