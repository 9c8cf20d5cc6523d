pub mod Asks
pub mod Begun
pub mod Run
pub mod Going
