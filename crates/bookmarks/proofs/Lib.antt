pub mod AfterLaws
pub mod TurnWays
pub mod HeadWays
pub mod LiesWays
pub mod CopyWays
