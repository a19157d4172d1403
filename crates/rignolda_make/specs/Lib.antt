pub mod DrawnTexts
pub mod DrawnTrees
pub mod Options
pub mod RandomJobs
pub mod WorstTexts
