pub mod Values
pub mod Places
pub mod Groups
