pub mod Table
pub mod Filling
pub mod Ledgers
