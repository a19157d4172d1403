pub mod Exchanges
pub mod TreeExchanges
