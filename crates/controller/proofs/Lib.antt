pub mod Bounding
pub mod Cells
pub mod Fresh
pub mod Places
pub mod Running
pub mod Stepping
