pub mod Places
pub mod Linking
pub mod Turning
