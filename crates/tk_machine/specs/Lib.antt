pub mod State
pub mod Hosts
pub mod Kills
pub mod Machine
pub mod Turns
pub mod Events
pub mod Fair
pub mod Prompt
