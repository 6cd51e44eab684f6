pub mod GrantsExact
pub mod RunLaws
pub mod WorstPhase
