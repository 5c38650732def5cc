pub mod Goals
pub mod Matched
pub mod Steps
pub mod Walked
