pub mod Answers
pub mod Digits
pub mod Disjoint
pub mod Tabulate
pub mod Ranges
