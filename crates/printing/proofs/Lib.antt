pub mod Ends
pub mod Area
pub mod Last
pub mod Reported
pub mod Marks
pub mod Accepting
pub mod Asking
pub mod Runs
