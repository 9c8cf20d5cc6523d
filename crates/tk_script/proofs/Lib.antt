pub mod Above
pub mod Places
pub mod Played
pub mod ScriptExamples
pub mod ScriptFiles
pub mod Tables
