pub mod Choice
pub mod Fit
pub mod Laws
pub mod Planned
pub mod Scripts
