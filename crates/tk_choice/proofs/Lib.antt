pub mod First
pub mod Took
