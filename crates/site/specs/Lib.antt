pub mod Model
pub mod CellStates
pub mod Messages
pub mod Pages
pub mod Events
pub mod Drill
pub mod Period
pub mod Counting
