pub mod Change
pub mod Kept
pub mod Local
pub mod Reached
pub mod Spans
