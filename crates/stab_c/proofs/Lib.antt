pub mod Lists
pub mod Rings
pub mod Masks
pub mod Forgetting
pub mod Backlogs
