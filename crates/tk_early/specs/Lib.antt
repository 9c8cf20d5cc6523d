pub mod Possible
pub mod Settled
pub mod Words
