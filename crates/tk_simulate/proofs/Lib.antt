pub mod Added
pub mod Opened
pub mod Runs
pub mod Exits
pub mod Ends
pub mod Given
pub mod Played
pub mod Begun
