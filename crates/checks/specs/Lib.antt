pub mod Starred
pub mod StarredBounds
