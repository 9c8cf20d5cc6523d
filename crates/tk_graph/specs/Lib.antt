pub mod Cycle
pub mod Index
pub mod Order
pub mod Parents
pub mod Removal
pub mod Results
pub mod Tasks
pub mod Unknown
