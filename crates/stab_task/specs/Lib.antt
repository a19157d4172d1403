pub mod Statuses
pub mod Loading
pub mod Answers
pub mod Refusals
pub mod CommandLine
pub mod Hosts
