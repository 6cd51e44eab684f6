pub mod Nets
pub mod Finish
pub mod FinishLaws
pub mod Lone
pub mod Rings
pub mod RingLaws
pub mod Verdicts
pub mod VerdictLaws
