pub mod Back
pub mod Headed
