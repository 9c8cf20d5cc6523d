pub mod Bound
pub mod Fits
pub mod Shape
pub mod ShapeEnv
pub mod Substituted
