pub mod Each
pub mod Pigeon
mod Walks
mod Turns
mod Added
mod Made
