pub mod Own
pub mod Scripts
pub mod Start
pub mod Turn
