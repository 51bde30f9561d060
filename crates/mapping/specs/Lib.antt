pub mod Maps
pub mod Cells
