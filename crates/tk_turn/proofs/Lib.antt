pub mod Numbers
pub mod Seats
pub mod Steps
pub mod Shares
pub mod Implied
pub mod Calls
