pub mod Additions
pub mod Agreement
pub mod Alone
pub mod Counting
pub mod Digits
pub mod Distinct
pub mod Examples
