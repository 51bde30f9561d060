pub mod Kept
pub mod Joined
pub mod Stacks
