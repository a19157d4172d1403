pub mod Complete
pub mod Near
pub mod Grows
pub mod Shifted
pub mod Above
pub mod TwoNodes
