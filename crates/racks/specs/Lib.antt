pub mod Places
pub mod Beside
pub mod Sides
