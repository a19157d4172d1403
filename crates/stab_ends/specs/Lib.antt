pub mod Accounts
pub mod Agreement
