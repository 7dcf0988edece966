pub mod Works
pub mod Tells
