mod Places
mod Histories
mod Rounds
mod Promise
mod Waiting
mod Above
mod AheadOfHeard
mod Quarters
mod Markers
mod Rooms
mod NotBehind
mod Reported
mod GoneAbove
mod Runs
pub mod ForCallers
mod Steps
mod Loop
mod Heads
mod NumberBytes
mod Again
mod Spelled
mod Sums
mod TableSums
mod Texts
mod KeyBytes
pub mod Rising
pub mod Chosen
pub mod RootRounds
pub mod Queue
pub mod Told
pub mod Merged
