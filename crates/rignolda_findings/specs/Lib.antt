pub mod Shapes
pub mod Gathered
