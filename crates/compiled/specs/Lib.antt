pub mod Elements
pub mod Words
pub mod Parts
pub mod Derived
pub mod Fits
pub mod Sound
pub mod Values
pub mod Copies
