pub mod Paths
pub mod Names
pub mod Own
pub mod Judging
