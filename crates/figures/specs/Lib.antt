pub mod Critical
pub mod AllFigures
