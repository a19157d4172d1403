pub mod ActLists
pub mod Scripts
pub mod Draws
