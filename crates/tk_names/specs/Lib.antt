pub mod Children
pub mod Clash
pub mod Rules
