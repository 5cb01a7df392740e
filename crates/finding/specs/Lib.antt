pub mod Values
pub mod Records
pub mod Links
pub mod Found
