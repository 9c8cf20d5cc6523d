pub mod Event
pub mod Scenario
pub mod Words
