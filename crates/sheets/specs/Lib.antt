pub mod Pages
pub mod Offers
pub mod Legal
pub mod Checks
pub mod Laws
pub mod Reads
