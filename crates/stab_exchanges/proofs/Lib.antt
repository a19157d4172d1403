pub mod Underway
pub mod Counted
pub mod WholeRounds
pub mod RoundsOf
pub mod TreesShown
pub mod TreeRests
pub mod CountsStay
pub mod TreeRuns
