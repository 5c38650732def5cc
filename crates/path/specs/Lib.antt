pub mod Walks
pub mod Masks
