pub mod Ends
pub mod Played
pub mod Runs
pub mod Scripts
pub mod Started
