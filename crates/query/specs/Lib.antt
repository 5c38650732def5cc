pub mod Parts
pub mod Names
pub mod Fine
pub mod Verdict
pub mod TypeArea
