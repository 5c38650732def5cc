pub mod Size
pub mod Fault
