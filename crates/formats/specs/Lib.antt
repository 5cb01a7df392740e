pub mod House
pub mod Refusal
