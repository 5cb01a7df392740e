pub mod Counting
pub mod Lines
pub mod Marks
pub mod Numbering
pub mod Gathering
pub mod Layers
pub mod Planning
pub mod Building
