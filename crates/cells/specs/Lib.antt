pub mod Capabilities
pub mod File
pub mod Held
