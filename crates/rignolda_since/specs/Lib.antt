pub mod Backlogs
pub mod ObeysSince
pub mod VerdictTexts
pub mod Logs
pub mod ObeysLogs
pub mod LogTexts
