pub mod States
pub mod Runs
pub mod Claims
pub mod Exact
pub mod Sample
