pub mod Directory
pub mod Sections
pub mod Faults
pub mod Verdict
