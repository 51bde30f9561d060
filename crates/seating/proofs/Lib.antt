pub mod Tables
pub mod Spots
pub mod Fits
pub mod Along
pub mod Seatings
pub mod Copies
pub mod Owes
pub mod Faces
