pub mod Claims
pub mod Views
pub mod Turns
pub mod Rule
pub mod Lending
