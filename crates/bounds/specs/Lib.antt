pub mod Numbers
pub mod Sums
pub mod Rows
pub mod Lengths
