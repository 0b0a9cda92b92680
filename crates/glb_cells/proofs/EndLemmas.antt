-- The end of the table.
pub mod Popped
pub mod Ending
pub mod Closing
pub mod Histories
