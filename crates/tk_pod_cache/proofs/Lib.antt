pub mod Judged
pub mod Listed
