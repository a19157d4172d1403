pub mod Interleavings
pub mod States
pub mod Seating
pub mod Shown
pub mod Turns
pub mod Calls
pub mod Settled
pub mod StepLists
