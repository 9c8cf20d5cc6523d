pub mod Duration
pub mod Moment
