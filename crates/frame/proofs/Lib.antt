pub mod Puts
pub mod Packing
pub mod Framing
