pub mod Admitted
pub mod Guards
pub mod Json
pub mod Objects
pub mod Report
pub mod Status
pub mod Words
