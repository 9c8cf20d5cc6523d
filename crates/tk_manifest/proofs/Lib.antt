pub mod Examples
pub mod Fine
pub mod FineInput
pub mod FineSpecs
pub mod InOrder
