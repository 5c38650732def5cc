pub mod CompileWays
pub mod CallWays
pub mod WithinWays
pub mod PageLeft
