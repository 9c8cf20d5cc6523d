pub mod Children
pub mod Fronts
pub mod Objects
pub mod Passed
pub mod Shown
pub mod Views
pub mod Written
