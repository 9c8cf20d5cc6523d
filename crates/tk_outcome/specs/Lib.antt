pub mod Exits
pub mod Fetches
pub mod Laws
pub mod Walked
