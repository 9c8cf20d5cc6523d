pub mod Admitted
pub mod Events
pub mod First
pub mod Playable
pub mod Read
pub mod Told
