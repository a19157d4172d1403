pub mod KnownKinds
pub mod Stops
