pub mod Rows
pub mod Uses
pub mod Faults
pub mod Naming
