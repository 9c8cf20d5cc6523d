pub mod Examples
pub mod FirstBad
pub mod ItemsOf
pub mod KeysOf
