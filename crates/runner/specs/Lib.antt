pub mod Tasks
pub mod Serves
pub mod Boards
pub mod Marks
pub mod Records
pub mod Runners
pub mod Promises
pub mod Alone
