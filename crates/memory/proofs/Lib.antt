pub mod Clearing
pub mod Shuffles
pub mod Sorting
