pub mod Marks
pub mod Swaps
