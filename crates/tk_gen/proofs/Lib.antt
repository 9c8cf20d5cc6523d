mod Drawn
pub mod Examples
mod Joined
