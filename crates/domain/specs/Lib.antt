pub mod Insertion
pub mod Spare
pub mod Kept
