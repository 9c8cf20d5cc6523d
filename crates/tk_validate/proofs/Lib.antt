pub mod AgreedKinds
mod EachText
mod Examples
mod FewTasks
mod FirstNone
pub mod Firsts
mod GoodTexts
mod InOrder
mod KnownParents
mod KnownTasks
pub mod NoTask
mod OwnPipeline
pub mod PiecesFinding
pub mod SeenNames
pub mod StepWords
mod TasksDiffer
mod ValidPipeline
mod ValidReads
