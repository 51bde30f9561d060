pub mod Walks
pub mod Indexed
pub mod Ends
