pub mod Arguments
pub mod WholeMask
pub mod TakingRecords
pub mod Trying
pub mod Descending
pub mod Verdicts
