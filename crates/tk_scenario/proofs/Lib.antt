pub mod Attempts
pub mod Numerals
pub mod WordCount
