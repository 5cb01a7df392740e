pub mod Reading
pub mod Positions
pub mod Joining
pub mod Joined
pub mod Lines
pub mod Passing
