pub mod MatrixCounts
pub mod MatrixLists
pub mod ResultFacts
