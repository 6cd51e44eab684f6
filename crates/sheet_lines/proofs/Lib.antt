pub mod Columns
pub mod Entries
pub mod Finds
pub mod Handed
pub mod Servers
