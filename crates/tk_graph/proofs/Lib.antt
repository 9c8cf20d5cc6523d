mod Examples
pub mod Among
pub mod Ascending
pub mod ChildLists
pub mod CycleFound
pub mod CycleNames
pub mod LeftOver
pub mod NoTask
pub mod Outcome
pub mod PlacesWhere
pub mod Removing
pub mod ResultTasks
pub mod TaskParents
pub mod UnknownFrom
pub mod WalkSteps
