pub mod Passing
pub mod Queue
