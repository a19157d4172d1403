pub mod AgentTrees
pub mod Reported
pub mod ReportExample
