pub mod Notes
pub mod Standing
