pub mod Answered
pub mod Ended
pub mod Firsts
pub mod Gathers
pub mod Walks
