pub mod Cuts
pub mod Told
pub mod Carries
pub mod Alike
