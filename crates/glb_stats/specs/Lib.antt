pub mod Counter
pub mod Balances
pub mod Text
