pub mod Bounds
mod Meaning
mod Entries
mod Listing
mod Turning
mod Sweeping
pub mod Telling
mod Tying
mod Pasts
mod Periods
mod Counts
mod Ends
mod Invariants
mod Changes
mod Alike
mod Requests
mod Passing
mod Accepted
mod Messages
pub mod Runs
