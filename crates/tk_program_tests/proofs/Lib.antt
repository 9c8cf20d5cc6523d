pub mod Eachs
pub mod Ready
