pub mod Labels
pub mod Found
pub mod Tests
pub mod Choice
pub mod Fit
pub mod Laws
