pub mod BalanceFacts
pub mod TextFacts
