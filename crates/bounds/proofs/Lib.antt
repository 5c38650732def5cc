pub mod RowLengths
pub mod SumWays
pub mod PossibleWays
pub mod RootLengths
pub mod DeadLengths
