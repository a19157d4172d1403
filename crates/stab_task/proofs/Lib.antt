pub mod Commands
pub mod Refusals
pub mod Unscheduled
pub mod ToldBytes
