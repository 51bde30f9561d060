pub mod Grids
