pub mod Durations
pub mod Fields
pub mod Names
pub mod Nothing
pub mod Objects
pub mod Pipelines
pub mod Runs
pub mod Tasks
