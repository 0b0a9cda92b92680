pub mod Rules
pub mod Words
pub mod Settings
pub mod OrderFaults
pub mod Commands
pub mod inner
