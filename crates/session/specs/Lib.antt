pub mod Played
pub mod Sessions
pub mod Opened
