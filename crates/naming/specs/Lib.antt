pub mod Names
pub mod Marks
pub mod Namings
pub mod Walks
