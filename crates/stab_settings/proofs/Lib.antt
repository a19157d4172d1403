pub mod Suffixes
pub mod Overwritten
pub mod Tables
