pub mod Lawful
pub mod Names
pub mod Reasons
pub mod Steps
pub mod Worked
