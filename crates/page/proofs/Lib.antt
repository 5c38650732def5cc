pub mod Placing
pub mod Reporting
