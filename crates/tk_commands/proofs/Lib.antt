pub mod Commands
pub mod Counts
pub mod Endings
pub mod Fronts
pub mod Generated
pub mod Lines
pub mod Numerals
pub mod RunEnds
