pub mod Telling
pub mod Turns
pub mod Following
pub mod Stepping
pub mod Beginning
