pub mod LinesMore
pub mod Made
pub mod Numbered
pub mod Plans
pub mod Steps
