pub mod Answer
pub mod Choice
pub mod Ends
pub mod Entries
pub mod Holding
pub mod Laws
pub mod Seat
pub mod Turn
