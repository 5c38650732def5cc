pub mod Connectives
pub mod Properties
pub mod Slots
pub mod ConditionRows
pub mod Evaluation
pub mod KnownWords
pub mod Tables
