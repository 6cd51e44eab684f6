pub mod Edges
pub mod Reached
pub mod Ordered
pub mod Legal
pub mod Lines
pub mod Graphs
pub mod Racked
pub mod Figured
