pub mod Turned
pub mod Belts
pub mod Histories
