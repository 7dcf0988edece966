pub mod Chains
pub mod Offering
pub mod Counting
