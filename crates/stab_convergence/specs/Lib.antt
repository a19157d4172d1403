pub mod PathRounds
pub mod Converged
pub mod Arrival
pub mod Exact
pub mod Greatest
pub mod Meanwhile
pub mod Misses
pub mod AtRest
