pub mod Text
pub mod Shapes
pub mod Left
