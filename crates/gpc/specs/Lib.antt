pub mod Cause
pub mod Answered
