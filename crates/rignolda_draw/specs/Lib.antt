pub mod Rows
pub mod ScenarioRows
pub mod Takes
pub mod Written
