pub mod Numbers
pub mod Endings
pub mod Nodes
pub mod Schedules
pub mod Reading
pub mod BelowEnded
pub mod Edges
