pub mod Dates
pub mod Examples
pub mod Grammar
pub mod Parts
pub mod Printed
pub mod ReadBack
