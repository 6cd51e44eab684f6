pub mod Lines
pub mod Works
pub mod Players
pub mod Openings
