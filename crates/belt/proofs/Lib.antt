pub mod Turns
pub mod InOrder
