pub mod Spelled
pub mod Steps
pub mod Copied
pub mod Stepped
pub mod Restricted
pub mod Distinct
pub mod Masks
