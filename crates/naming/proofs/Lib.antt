pub mod Clearing
pub mod Stepping
pub mod Alone
pub mod Onces
