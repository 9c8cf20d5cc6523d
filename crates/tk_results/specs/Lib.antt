pub mod Gathered
pub mod Read
pub mod Told
pub mod Written
