pub mod Reports
pub mod EndedNodes
pub mod Lines
pub mod Texts
pub mod LinesInside
