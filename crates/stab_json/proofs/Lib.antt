pub mod Bytes
pub mod Pairs
pub mod ForCallers
