pub mod Apart
pub mod FolderExamples
pub mod InOrder
pub mod WordFacts
