pub mod Answer
pub mod Layout
pub mod Outcome
pub mod Unread
