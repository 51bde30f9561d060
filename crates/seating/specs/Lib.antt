pub mod Benches
pub mod Seats
pub mod Lines
