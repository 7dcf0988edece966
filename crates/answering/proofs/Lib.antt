pub mod Rooms
pub mod Listing
pub mod Picks
pub mod Outs
pub mod Spelling
pub mod Fits
