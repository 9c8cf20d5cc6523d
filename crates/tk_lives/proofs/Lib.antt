pub mod Claims
pub mod Taken
pub mod Walks
