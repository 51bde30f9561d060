pub mod Owes
pub mod Sames
