pub mod Entries
pub mod Held
pub mod Answered
