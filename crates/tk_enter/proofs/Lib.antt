pub mod Apart
pub mod Behind
pub mod Going
pub mod Settled
pub mod Spelled
