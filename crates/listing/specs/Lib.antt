pub mod Spellings
pub mod Names
pub mod Texts
pub mod Calls
pub mod Lines
