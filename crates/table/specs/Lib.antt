pub mod Ready
pub mod Repetition
pub mod Typing
pub mod Verdict
pub mod Variables
