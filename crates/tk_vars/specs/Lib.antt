pub mod Grammar
pub mod Offset
pub mod Reading
pub mod Refusal
pub mod Steps
pub mod Target
pub mod Task
