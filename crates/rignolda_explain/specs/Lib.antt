pub mod Kinds
pub mod Refusals
pub mod Findings
pub mod Stops
pub mod Capacities
