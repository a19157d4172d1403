pub mod LinkTexts
pub mod Widest
