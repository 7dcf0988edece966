pub mod Lists
pub mod Worked
