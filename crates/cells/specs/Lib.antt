pub mod Bytes
pub mod Values
pub mod Checks
