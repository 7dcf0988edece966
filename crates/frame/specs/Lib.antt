pub mod Record
pub mod Frame
pub mod Frames
pub mod Framed
