pub mod Spans
pub mod AtRatios
pub mod Cycles
