pub mod Counting
pub mod Drawing
pub mod Pushed
pub mod ReadBack
