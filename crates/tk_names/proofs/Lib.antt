pub mod ClashLaw
pub mod Cut
pub mod Earlier
pub mod Examples
pub mod PodNames
