pub mod Insertion
pub mod Values
pub mod Counts
pub mod Among
pub mod Spares
