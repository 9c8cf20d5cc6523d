pub mod FileTable
pub mod Folders
pub mod ScriptHost
