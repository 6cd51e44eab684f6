pub mod Plans
pub mod Texts
pub mod Reports
