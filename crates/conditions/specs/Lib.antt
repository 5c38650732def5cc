pub mod Truths
pub mod Bound
pub mod Property
pub mod Evaluates
pub mod Known
