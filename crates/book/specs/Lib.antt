pub mod Told
pub mod Book
pub mod Examples
