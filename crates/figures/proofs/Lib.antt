pub mod Judged
pub mod Members
pub mod Turned
