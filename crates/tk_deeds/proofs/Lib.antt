pub mod Steps
pub mod Admitted
pub mod Deeds
