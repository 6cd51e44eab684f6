pub mod Three
pub mod Read
