mod Filled
pub mod Asked
mod Growing
pub mod Walked
mod Bests
