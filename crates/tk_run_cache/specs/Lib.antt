pub mod Active
pub mod Follow
pub mod Labelled
