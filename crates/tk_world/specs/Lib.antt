pub mod Goes
pub mod Looking
pub mod Moves
pub mod Nodes
pub mod Stepped
pub mod Whole
