pub mod Words
pub mod AnyKinds
pub mod AnyKindLaws
