pub mod Noting
pub mod Owners
pub mod Seated
pub mod Rounded
pub mod Benched
