pub mod Apart
pub mod Space
