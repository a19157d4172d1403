pub mod Taking
pub mod Drawing
