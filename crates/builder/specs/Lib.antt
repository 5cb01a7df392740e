pub mod Space
pub mod Steps
pub mod Plan
