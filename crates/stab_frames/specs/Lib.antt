pub mod Parameters
pub mod Queue
