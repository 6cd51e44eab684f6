pub mod Givens
pub mod Texts
pub mod Steps
