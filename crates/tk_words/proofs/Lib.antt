pub mod Examples
pub mod FitsLine
pub mod InOrder
pub mod Meant
pub mod Plain
pub mod Walks
