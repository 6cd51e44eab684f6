pub mod InnerService
pub mod Stacks
pub mod WithinLaws
pub mod StackLaws
