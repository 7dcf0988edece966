mod Tables
pub mod Puts
