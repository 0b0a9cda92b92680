-- Berths: what a call knows of one, and what it leaves.
pub mod Opened
pub mod There
pub mod Beside
pub mod Sizes
pub mod States
pub mod Looked
pub mod First
pub mod Noted
