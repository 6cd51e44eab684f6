pub mod Words
pub mod Ratios
