pub mod Keys
pub mod Held
pub mod Texts
pub mod Linked
pub mod Sweep
