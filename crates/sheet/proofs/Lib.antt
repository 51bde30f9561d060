pub mod Ends
pub mod Undoes
pub mod Agreements
pub mod Edits
pub mod Removes
pub mod Backs
