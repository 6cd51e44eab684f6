pub mod ArcNet
pub mod Arcs
