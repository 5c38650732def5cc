pub mod ToldWords
pub mod NodeWays
pub mod RepeatWays
pub mod MatchWays
pub mod ShorterWays
pub mod ListedWays
pub mod AnswerWays
pub mod VerdictWays
