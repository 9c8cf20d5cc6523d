pub mod Added
pub mod Choice
pub mod Combinations
pub mod Include
pub mod Product
pub mod Task
