pub mod Loops
pub mod Numbers
pub mod Written
pub mod Seek
