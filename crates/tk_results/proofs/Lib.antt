pub mod AllRead
pub mod AllThere
pub mod Examples
pub mod FirstRefused
pub mod JsonText
pub mod KeyOrder
pub mod ReadsBack
pub mod Undeclared
