pub mod Examples
pub mod Members
