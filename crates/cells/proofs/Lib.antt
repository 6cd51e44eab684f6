pub mod Digits
pub mod KindWords
pub mod Firsts
pub mod Parts
