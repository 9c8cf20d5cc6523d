pub mod Conditions
pub mod Laws
pub mod Placed
pub mod Played
pub mod Pods
pub mod Settled
pub mod Settling
pub mod Watched
