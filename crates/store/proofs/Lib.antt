pub mod Answered
pub mod Emptying
pub mod Entries
pub mod Filling
pub mod Held
pub mod Making
