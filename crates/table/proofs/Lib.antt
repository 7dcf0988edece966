pub mod Places
pub mod Searching
pub mod Writing
