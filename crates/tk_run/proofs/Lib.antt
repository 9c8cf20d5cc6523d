pub mod Came
pub mod Onward
pub mod Killed
pub mod Starting
mod Lives
pub mod Refused
pub mod Asked
pub mod Members
