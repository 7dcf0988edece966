pub mod Messages
pub mod Examples
