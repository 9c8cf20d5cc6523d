pub mod Before
pub mod Processes
