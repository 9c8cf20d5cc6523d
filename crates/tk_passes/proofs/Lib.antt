pub mod Around
pub mod Owning
pub mod Standing
