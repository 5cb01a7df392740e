pub mod Within
pub mod PlacingHeap
pub mod PlacingRules
pub mod Bridge
