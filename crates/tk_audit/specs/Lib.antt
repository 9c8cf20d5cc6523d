pub mod Answer
pub mod Audit
pub mod Laws
