pub mod Book
pub mod Stands
pub mod Sheets
