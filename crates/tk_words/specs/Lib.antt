pub mod Line
pub mod Command
pub mod Ordered
