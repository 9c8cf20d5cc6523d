pub mod Seating
pub mod Seats
pub mod Timely
