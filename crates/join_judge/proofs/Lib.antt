pub mod PathWays
pub mod NameWays
pub mod ValueWays
pub mod OwnWays
pub mod PartWays
pub mod VerdictWays
