pub mod Rows
pub mod Sorts
pub mod TableRule
pub mod Listed
pub mod Misuse
pub mod Places
pub mod Items
