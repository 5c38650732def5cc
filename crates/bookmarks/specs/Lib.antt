pub mod Turns
pub mod Heads
pub mod Copies
