pub mod Below
pub mod Identities
