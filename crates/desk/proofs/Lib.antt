pub mod Bytes
pub mod Takes
pub mod Numbers
