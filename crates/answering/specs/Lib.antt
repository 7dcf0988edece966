pub mod Replies
pub mod Fitting
pub mod Handled
