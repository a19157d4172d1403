pub mod Refreshes
pub mod Tables
