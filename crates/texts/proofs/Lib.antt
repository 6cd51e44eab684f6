pub mod Chains
pub mod Loops
pub mod Undone
