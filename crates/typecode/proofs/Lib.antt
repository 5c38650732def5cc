pub mod Codes
pub mod Octal
