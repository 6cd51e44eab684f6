pub mod Planned
pub mod Told
pub mod Answered
pub mod Printed
pub mod One
