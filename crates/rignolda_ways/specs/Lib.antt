pub mod Nets
pub mod Answers
pub mod Turns
pub mod Runs
pub mod Rings
pub mod TwoRounds
pub mod RingOfTwo
