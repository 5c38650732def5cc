pub mod Places
pub mod Ends
pub mod Factors
pub mod Slots
pub mod Parts
