pub mod Exchanged
pub mod Kinds
pub mod Layout
pub mod Ready
