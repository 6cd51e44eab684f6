pub mod Puts
pub mod Cells
