pub mod Coming
pub mod Handling
pub mod Requests
pub mod Telling
