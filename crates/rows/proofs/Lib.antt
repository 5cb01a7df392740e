pub mod Rows
pub mod SpareExample
pub mod MarkExample
