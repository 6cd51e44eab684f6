pub mod Matched
pub mod Lists
pub mod TableChecks
pub mod Numbered
