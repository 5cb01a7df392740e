pub mod Plain
pub mod Classes
pub mod Fixing
pub mod Opposed
